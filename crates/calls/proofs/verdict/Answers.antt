-- `calls::verdict` meets its contract. Assumes nothing.
use mathlib.Core.Bool.{false}
use mathlib.Core.Path.{◌≡◌, sym, ap, ◌∙◌}
use borrow.Author.Rules.{rules}
use native.Mathlib.Omega.{arith}
use Rattle.std.proofs.lemmas.Result.{err_from_is_err_and}
use Rattle.model.specs.declared.Refusal.TheVariants.{AreaDamaged}
use Rattle.model.specs.Tallies.{sound}
use Rattle.model.specs.Trip.{verdict}
use Rattle.taking.specs.Damaged.{ill_formed, many_samples}
use Rattle.steps.specs.Laws.{step_seen}
use Rattle.steps.specs.Refusals.{verdict_unlending, unlent_damaged}
use Rattle.steps.specs.Accepted.{verdict_done, verdict_held}
use Rattle.calls.proofs.verdict.Goals as goal

pub returns-in_err-recognise : goal.returns-in_err-recognise
returns-in_err-recognise c =
    let p = err_from_is_err_and c.from_residual-in_err-recognise.result c.from_residual-in_err-recognise.ensures.1 in
    rw (p.1, p.2) (step_seen (search rules) (c.in_err-recognise.ensures verdict verdict_unlending))

pub returns-then-n-gt-MAX_SAMPLES : goal.returns-then-n-gt-MAX_SAMPLES
returns-then-n-gt-MAX_SAMPLES c =
    step_seen (search rules) (unlent_damaged c.in_ok-recognise.ensures.size (many_samples _ (omega (arith, c.number-n.ensures, c.if-n-gt-MAX_SAMPLES.true))) verdict verdict_unlending)

pub returns-in_err-t : goal.returns-in_err-t
returns-in_err-t c =
    let p = err_from_is_err_and c.from_residual-in_err-t.result c.from_residual-in_err-t.ensures.1 in
    let d : c.in_err-t.field-0.0 ≡ AreaDamaged = search rules in
    let unsound : sound c.read_tally.result ≡ false = search rules in
    rw (p.1, p.2, d)
    (step_seen (search rules) (unlent_damaged c.in_ok-recognise.ensures.size (ill_formed _ (ap sound (sym c.read_tally.ensures) ∙ unsound)) verdict verdict_unlending))

pub returns : goal.returns
returns c =
    let held : c.in_ok-t.t.tally ≡ c.read_tally.result = search rules in
    step_seen (search rules) (verdict_done c.in_ok-recognise.ensures (verdict_held c.number-n.ensures (held ∙ c.read_tally.ensures) c.judge.ensures))
