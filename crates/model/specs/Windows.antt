-- What a window looks at, which samples qualify, the six functions, and the held entries (document 01, "One window").
use Rattle.std.specs.Prelude.{Bool, true, false, cond, List, [], ◌∷◌, map, ℕ, ◌-◌, ◌*◌, leb, ℤ, pos, length, get_or}
use Rattle.std.specs.Prelude.{Option, None, Some}
use Rattle.std.specs.Int.Signed.{le_z}
use Rattle.model.specs.declared.Sample.{Sample}
use Rattle.model.specs.declared.Function.{Function}
use Rattle.model.specs.declared.Function.TheVariants.{Count, Sum, Smallest, Largest, Average, Percentile}
use Rattle.model.specs.Numbers.{withinℤ, round_half_even, range, sumℤ, filter, count, any, total}
use Rattle.model.specs.Records.{channel, sample_of, Window}

-- the sample of second i; every use below has i among the samples
unfoldable pub sample_at : List Sample → ℕ → Sample
sample_at ss i = get_or ss i (sample_of [])

-- "After n samples a window looks at the last min(w, n)": their seconds
unfoldable pub looked_at : Window → ℕ → List ℕ
looked_at w n = let first : ℕ = n - w.width in range first (n - first)

-- "the ones whose condition channel is within low..high qualify": asked of the samples and a second
unfoldable pub qualifies : Window → List Sample → ℕ → Bool
qualifies w ss i = withinℤ w.low w.high (channel w.condition (sample_at ss i))

-- the seconds that the window looks at and that qualify
unfoldable pub qualifying : Window → List Sample → List ℕ
qualifying w ss = filter (qualifies w ss) (looked_at w (length ss))

-- the value that the window reads of a second
unfoldable pub value_at : Window → List Sample → ℕ → ℤ
value_at w ss i = channel w.channel (sample_at ss i)

unfoldable pub values : Window → List Sample → List ℤ
values w ss = map (value_at w ss) (qualifying w ss)

-- The six functions of the qualifying values. Where none qualifies, count and sum are 0 and the others have no value.

abbrev pub smaller : ℤ → ℤ → ℤ
smaller a b = cond (le_z a b) a b

abbrev pub larger : ℤ → ℤ → ℤ
larger a b = cond (le_z b a) a b

unfoldable pub fold : (ℤ → ℤ → ℤ) → ℤ → List ℤ → ℤ
fold f a [] = a
fold f a (z ∷ zs) = fold f (f a z) zs

unfoldable pub smallest : List ℤ → Option ℤ
smallest [] = None
smallest (z ∷ zs) = Some (fold smaller z zs)

unfoldable pub largest : List ℤ → Option ℤ
largest [] = None
largest (z ∷ zs) = Some (fold larger z zs)

-- "The average is sum by count"; R-4: "to the nearest whole unit and an exact half to the even neighbour"
unfoldable pub average : List ℤ → Option ℤ
average [] = None
average (z ∷ zs) = Some (round_half_even (sumℤ (z ∷ zs)) (length (z ∷ zs)))

-- "100 × (qualifying values ≤ v) is at least 95 × (qualifying values)"
unfoldable pub enough : List ℤ → ℤ → Bool
enough zs v = leb (95 * length zs) (100 * count (λ z. le_z z v) zs)

-- "the least qualifying value v for which" that holds
unfoldable pub percentile : List ℤ → Option ℤ
percentile zs = smallest (filter (enough zs) zs)

unfoldable pub figure : Function → List ℤ → Option ℤ
figure Count zs = Some (pos (length zs))
figure Sum zs = Some (sumℤ zs)
figure Smallest zs = smallest zs
figure Largest zs = largest zs
figure Average zs = average zs
figure Percentile zs = percentile zs

-- what a window reads after these samples
unfoldable pub reading : Window → List Sample → Option ℤ
reading w ss = figure w.function (values w ss)

-- "An entry is one qualifying sample in one window of function 2 or 3."
unfoldable pub keeps_entries : Function → Bool
keeps_entries Count = false
keeps_entries Sum = false
keeps_entries Smallest = true
keeps_entries Largest = true
keeps_entries Average = false
keeps_entries Percentile = false

-- the seconds of all entries so far, also those that have left the window
unfoldable pub entries : Window → List Sample → List ℕ
entries w ss = cond (keeps_entries w.function) (filter (qualifies w ss) (range 0 (length ss))) []

-- a later value is "as small (function 2), or as large (function 3); an equal one counts"
unfoldable pub displaces : Function → ℤ → ℤ → Bool
displaces Count later earlier = false
displaces Sum later earlier = false
displaces Smallest later earlier = le_z later earlier
displaces Largest later earlier = le_z earlier later
displaces Average later earlier = false
displaces Percentile later earlier = false

-- those of a list that no later one displaces
unfoldable pub undisplaced : (ℕ → ℕ → Bool) → List ℕ → List ℕ
undisplaced by [] = []
undisplaced by (i ∷ is) = cond (any (λ j. by j i) is) (undisplaced by is) (i ∷ undisplaced by is)

-- "It is held while it is in the window and no later qualifying sample there" displaces it: the seconds of the held entries
unfoldable pub held : Window → List Sample → List ℕ
held w ss =
    cond (keeps_entries w.function)
    (undisplaced (λ j i. displaces w.function (value_at w ss j) (value_at w ss i)) (qualifying w ss))
    []

-- "The book's move count is 2 × entries − held, both from the lists."
unfoldable pub moves : List Window → List Sample → ℕ
moves ws ss = 2 * total (λ w. length (entries w ss)) ws - total (λ w. length (held w ss)) ws
