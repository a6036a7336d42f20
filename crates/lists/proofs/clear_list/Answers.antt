-- `lists::clear_list` meets its contract. Assumes nothing.
use Rattle.lists.specs.Effects.{emptied}
use Rattle.lists.proofs.clear_list.Goals as goal

pub returns : goal.returns
returns c =
    emptied _ _ _ _ c.told-part c.args.k.within c.put.ensures c.put-2.ensures
