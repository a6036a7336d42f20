-- `tally_update::add_classes` meets its contract. Assumes nothing.
use Rattle.std.proofs.Common.{of_calls}
use Rattle.model.specs.PerClass.{per_class_is}
use Rattle.class_tally.specs.Add.{added_class}
use Rattle.tally_update.specs.Raised.{low_class, class_numbers}
use Rattle.tally_update.proofs.add_classes.Goals as goal

pub returns : goal.returns
unfolding class_numbers
returns c =
    let classes = per_class_is c.of-k.result (λ k. added_class k (low_class c.args.b.now k) c.args.s) (λ k. search (of_calls, c.of-k.ensures k)) in
    rw (c.class_numbers.ensures, classes) at c.put_words.ensures
