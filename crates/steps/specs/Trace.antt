-- Every list of calls (document 01, "The trip book"; demand 3): what the promises of its calls come to. crates/monitor/proofs/Exported.antt has THE THEOREM about the
-- exported functions, which rests on this.
use Rattle.std.specs.Prelude.{true, List, ◌∷◌, ◌≡◌, refl, ℕ, ◌*◌, ◌≤◌, ◌<◌, length}
use Rattle.std.proofs.Common.{ap, ◌∙◌, arith}
use Rattle.model.specs.Numbers.{total}
use Rattle.model.specs.Windows.{keeps_entries, entries, held, moves}
use Rattle.model.specs.Trip.{Trip, empty, Call, clear, Answer, outcome, said, left, answers, after, next, window_at}
use Rattle.slide.specs.Held.{held_rising}
use Rattle.laws.specs.Lists.{Rising}
use Rattle.slide.specs.Moves.{counted_moves, moves_counted}
use Rattle.slots.specs.Layout.{moves_of}
use Rattle.lists.specs.Lists.{list_of}
use Rattle.area.specs.Layout.{area_len, parts_of, slots_in}
use Rattle.area.specs.Stands.{Stands}
use Rattle.steps.specs.Step.{Run, done, call, aside}

-- of a list of calls from a fresh area: the answers `given` and the area `s` that it leaves
pub record Claim (cs : List Call) (given : List Answer) (s : List ℕ) : Type 0 where
  -- each call answers what the reference model, fed the same list, answers
  pub answered : given ≡ answers empty cs
  -- the moves counted in the area are 2 × entries − held of the model's lists
  pub counted : moves_of (slots_in (parts_of s)) ≡ moves (after empty cs).windows (after empty cs).samples
  -- the list that the area keeps for a window of function 2 or 3 is exactly the entries held there, each once
  pub lists :
      (k : ℕ) → k < length (after empty cs).windows → keeps_entries (window_at (after empty cs) k).function ≡ true
      → (list_of (slots_in (parts_of s)) k ≡ held (window_at (after empty cs) k) (after empty cs).samples) × Rising (list_of (slots_in (parts_of s)) k)

-- a run from an area that stands for a trip answers what the model answers, and leaves an area that stands for the model's last trip
pub runs : {s s' : List ℕ} {cs : List Call} {given : List Answer} → Run s cs given s' → (t : Trip) → Stands s t
    → (given ≡ answers t cs) × Stands s' (after t cs)
unfolding answers after
runs done t st = (refl, st)
runs (call {c = c} step run) t st =
    let one = step.model t st in
    let rest = runs run (next t c) one.1 in
    (cc, rest.1)
runs (aside view lent lent' wrong step run) t st = runs run t (rw (step.kept 11 (step.wrong.when wrong)).0 st)

-- what an area that stands for a trip says of the moves and the lists
pub kept : (s : List ℕ) (t : Trip) → Stands s t
    → (moves_of (slots_in (parts_of s)) ≡ moves t.windows t.samples)
    × ((k : ℕ) → k < length t.windows → list_of (slots_in (parts_of s)) k ≡ held (window_at t k) t.samples)
unfolding window_at
kept s t st = (counted_moves (moves_of (slots_in (parts_of s))) t.windows t.samples st.holds.slots.moves, λ k h. (st.holds.slots.slots k h).list)

-- an accepted clear makes any area of the right length stand for the empty trip, and the rest of the list goes on from there
pub fresh_runs : {s s' : List ℕ} {cs : List Call} {given : List Answer} → length s ≡ area_len → Run s (clear ∷ cs) given s'
    → (given ≡ answers empty (clear ∷ cs)) × Stands s' (after empty (clear ∷ cs))
unfolding answers after outcome said left
fresh_runs size (call step run) =
    let one = step.fresh refl size in
    let rest = runs run empty one.1 in
    (cc, rest.1)
fresh_runs size (aside view lent lent' wrong step run) =
    fresh_runs (ap (λ (l : List ℕ). length (view l)) (step.kept 11 (step.wrong.when wrong)).0 ∙ size) run

-- Every list of calls from a fresh area: a clear on an area of the right length, with any bytes in it, then any calls.
pub every_list : {s s' : List ℕ} {cs : List Call} {given : List Answer} → length s ≡ area_len → Run s (clear ∷ cs) given s' → Claim (clear ∷ cs) given s'
every_list {s} {s'} {cs} {given} size run =
    let r = fresh_runs size run in
    let k = kept s' (after empty (clear ∷ cs)) r.1 in
    record {
      answered = r.0;
      counted = k.0;
      lists = λ i h keeps. (k.1 i h, rw (k.1 i h) (held_rising (window_at (after empty (clear ∷ cs)) i) (after empty (clear ∷ cs)).samples));
    }

-- at most two moves for each entry
pub few_moves : {s s' : List ℕ} {cs : List Call} {given : List Answer} → length s ≡ area_len → Run s (clear ∷ cs) given s'
    → moves_of (slots_in (parts_of s')) ≤ 2 * total (λ w. length (entries w (after empty (clear ∷ cs)).samples)) (after empty (clear ∷ cs)).windows
few_moves {cs = cs} size run =
    let t : Trip = after empty (clear ∷ cs) in
    omega (arith, (every_list size run).counted, moves_counted t.windows t.samples)
