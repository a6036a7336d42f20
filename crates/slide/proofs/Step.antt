-- The sum, rolled on by one sample. Assumes nothing.
use Rattle.std.specs.Prelude.{◌≡◌, ℤ, ◌+ℤ◌, ◌-ℤ◌}
use Rattle.std.proofs.Math.Path.{ap}
use Rattle.std.proofs.Common.{◌∙◌}
use mathlib.Core.List.{List}
use Prim.Native.Nat.{◌<◌}
use Rattle.model.specs.declared.Sample.{Sample}
use Rattle.model.specs.Numbers.{sumℤ}
use Rattle.model.specs.Records.{channel, Window}
use Rattle.model.specs.Windows.{values}
use Rattle.slide.specs.Step.{more, enters, leaves, leaving, addend, sum_staying, sum_after_lem}

module _ (w : Window) (ss : List Sample) (wide : 0 < w.width) where
  pub sum_step : (s : Sample)
      → sumℤ (values w (more ss s)) ≡ (sumℤ (values w ss) -ℤ addend (leaves w ss) (leaving w ss)) +ℤ addend (enters w ss s) (channel w.channel s)
  sum_step s = sum_after_lem w ss wide s ∙ ap (λ (z : ℤ). z +ℤ addend (enters w ss s) (channel w.channel s)) (sum_staying w ss wide)
