-- A value for each class of speed: that of a class, and the values that f gives. Assumes nothing.
use Rattle.std.specs.Prelude.{◌≡◌}
use Rattle.model.specs.declared.SpeedClass.{SpeedClass}
use Rattle.model.specs.declared.SpeedClass.TheVariants.{Urban, Rural, Motorway}
use Rattle.model.specs.declared.per_class.PerClass.{PerClass}

abbrev pub value_in : {T : Type 0} → PerClass T → SpeedClass → T
value_in k Urban = k.urban
value_in k Rural = k.rural
value_in k Motorway = k.motorway

abbrev pub per_class : {T : Type 0} → (SpeedClass → T) → PerClass T
per_class f = record { urban = f Urban; rural = f Rural; motorway = f Motorway }

-- values that are those of f in each class
pub per_class_is : {T : Type 0} (k : PerClass T) (f : SpeedClass → T) → ((c : SpeedClass) → value_in k c ≡ f c) → k ≡ per_class f
per_class_is k f e = λ i. record { urban = e Urban i; rural = e Rural i; motorway = e Motorway i }
