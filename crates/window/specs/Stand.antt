-- What the windows' part stands for: these windows after these samples. Stated by the windows' qualifying values and held entries.
use Rattle.std.specs.Prelude.{true, List, [], ◌≡◌, ℕ, ◌+◌, ◌*◌, ◌≤◌, ◌<◌, length, get_or}
use Rattle.model.specs.Numbers.{sumℤ, total}
use Rattle.model.specs.Records.{sample_of, window_of, layout_kept, max_windows, max_samples, Window}
use Rattle.model.specs.Windows.{sample_at, values, held, entries}
use Rattle.model.specs.declared.Sample.{Sample}
use Rattle.model.specs.declared.Function.TheVariants.{Percentile}
use Rattle.cells.specs.Store.{values_of}
use Rattle.record.specs.Ranges.{EachInRange}
use Rattle.slide.specs.Ordered.{ordered}
use Rattle.slots.specs.Layout.{part_len, ring_seconds, list_capacity, record_of, moves_of, slot_of, record_in, count_in, sum_in, first_in, number_in, store_in}
use Rattle.lists.specs.Lists.{list_in}

-- the k-th of the windows
abbrev pub window_of_list : List Window → ℕ → Window
window_of_list ws k = get_or ws k (window_of [])

-- a slot's bytes stand for window w after the samples ss
pub record SlotStands (w : Window) (ss : List Sample) (s : List ℕ) : Type 0 where
  pub window : window_of (record_in s) ≡ w
  pub layout : layout_kept (record_in s) ≡ true
  pub count : count_in s ≡ length (values w ss)
  pub sum : sum_in s ≡ sumℤ (values w ss)
  pub first : first_in s < list_capacity
  -- no function but smallest and largest has entries: their list is empty
  pub list : list_in s ≡ held w ss
  pub store : w.function ≡ Percentile → values_of (store_in s) (count_in s) ≡ ordered (values w ss)

-- the list of a slot that no window has yet is empty
abbrev pub Unused : List ℕ → Type 0
Unused s = (first_in s < list_capacity) × (number_in s ≡ 0)

-- the part stands for the windows ws after the samples ss
pub record Stands (ws : List Window) (ss : List Sample) (p : List ℕ) : Type 0 where
  pub size : length p ≡ part_len
  pub windows : length ws ≤ max_windows
  pub samples : length ss ≤ max_samples
  pub ranges : EachInRange ss
  -- the ring has the last samples
  pub ring : (i : ℕ) → i < length ss → length ss ≤ i + ring_seconds → sample_of (record_of p i) ≡ sample_at ss i
  pub slots : (k : ℕ) → k < length ws → SlotStands (window_of_list ws k) ss (slot_of p k)
  -- the other slots have empty lists
  pub unused : (k : ℕ) → length ws ≤ k → k < max_windows → Unused (slot_of p k)
  -- the moves are 2 × entries − held
  pub moves : moves_of p + total (λ w. length (held w ss)) ws ≡ 2 * total (λ w. length (entries w ss)) ws
