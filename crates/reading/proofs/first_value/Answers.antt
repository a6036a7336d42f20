-- `reading::first_value` meets its contract. Assumes nothing.
use native.Mathlib.Omega.{arith}
use mir.Syntax.{w64}
use mir.ValLaws.{to_z-of_z}
use Rattle.reading.specs.Read.{reads_unfit, reads_unheld, reads_first}
use Rattle.reading.proofs.first_value.Goals as goal

pub returns-then-not-fit : goal.returns-then-not-fit
returns-then-not-fit c =
    reads_unfit _ _ _ c.told-part c.args.k.within _ c.fit.ensures c.if-not-fit.true

pub returns-then-number-eq0 : goal.returns-then-number-eq0
returns-then-number-eq0 c =
    reads_unheld _ _ c.args.extreme c.requires (omega (arith, c.number.ensures))

pub entry-second-requires : goal.entry-second-requires
entry-second-requires c =
    let f = c.fit.ensures.sound c.if-not-fit.false in
    (f.ready, f.number, omega (arith, c.number.ensures))

pub returns : goal.returns
returns c =
    rw (to_z-of_z w64 _ (record { sfits = c.value.type_inv }))
    (reads_first _ _ c.args.extreme c.requires _ _ (omega (arith, c.number.ensures)) c.entry-second.ensures c.value.ensures.0)
