-- What a window record of any length comes to: it keeps the layout, or a refusal (document 01, "The refusal table"). Assumes nothing.
use Rattle.std.specs.Prelude.{◌≡◌, true, false, cond, List, eqb, length, ℕ, ⊤, Result, Ok, Err}
use Rattle.std.proofs.Common.{sym}
use Rattle.model.specs.declared.Refusal.{Refusal}
use Rattle.model.specs.declared.Refusal.TheVariants.{RecordLength, WindowLayout}
use Rattle.model.specs.Records.{record_length, layout_kept}
use Rattle.record.specs.Read.{record_good, record_bad, read_apart}

-- refused for its length, or where the layout is broken
abbrev pub window_read : List ℕ → Result ⊤ Refusal
window_read r = cond (eqb (length r) record_length) (cond (layout_kept r) (Ok tt) (Err WindowLayout)) (Err RecordLength)

-- What a window record was read as tells of it.
pub window_kept : (r : List ℕ) → Ok tt ≡ window_read r → (length r ≡ record_length) × (layout_kept r ≡ true)
window_kept r e =
    let h = record_good r (layout_kept r) _ _ _ (Ok tt) (read_apart tt _) (read_apart tt _) e in
    (h.0, h.1.1)

pub window_refused : (r : List ℕ) (k : Refusal) → length r ≡ record_length → Err k ≡ window_read r → (k ≡ WindowLayout) × (layout_kept r ≡ false)
window_refused r k l e =
    let h = record_bad r (layout_kept r) _ _ _ (Err k) (λ f. read_apart tt k (sym f)) l e in
    (let f = h.0 in cc, h.1)
