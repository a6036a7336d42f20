-- One sample more in the list of held entries. Assumes nothing.
use Rattle.std.specs.Prelude.{◌≡◌, refl, List, [], ◌∷◌, ◌++◌, Bool, cond, ℕ, suc, ◌+◌, ◌-◌, ◌≤◌, ◌<◌}
use Rattle.std.proofs.Common.{sym, ◌∙◌, append-nil, arith}
use Rattle.std.proofs.Math.Path.{ap}
use Rattle.std.proofs.Math.Bool.{true, false}
use Rattle.std.proofs.Math.ListN.{length}
use Rattle.model.specs.declared.Sample.{Sample}
use Rattle.model.specs.Records.{channel, Window}
use Rattle.model.specs.Windows.{value_at, keeps_entries, displaces, undisplaced, held}
use Rattle.laws.specs.Lists.{All, all_map, one}
use Rattle.slide.specs.Step.{more, leaves, leaves_full, enters, staying, staying_within, staying_room}
use Rattle.slide.specs.Step.{qualifying_before, qualifying_after}
use Rattle.slide.specs.Step.{value_before, value_new}
use Rattle.slide.specs.Undisplaced.{pops, pops_same, aged, all_undisplaced, length_undisplaced}
use Rattle.slide.specs.Undisplaced.{undisplaced_pops, undisplaced_aged, undisplaced_same, by_value_law}
use Rattle.slide.specs.Held.{held_is, displaced_by, displaces_order, stepped}

module _ (w : Window) (ss : List Sample) (keeps : keeps_entries w.function ≡ true) where
  module _ (wide : 0 < w.width) where
    pub held_aged : aged w.width (length ss) (held w ss) ≡ undisplaced (displaced_by w ss) (staying w ss)
    held_aged =
        rw (held_is w ss keeps, qualifying_before w ss wide)
        (undisplaced_aged (displaced_by w ss) (leaves w ss) (length ss - w.width) w.width (length ss) (staying w ss) (λ e. omega (arith, leaves_full w ss e))
        (all_map (λ x h. h.0) (staying w ss) (staying_within w ss)))

    -- one sample more: d is the new one's test, for each second that stays in view
    pub held_stepped : (s : Sample) (d : ℕ → Bool)
        → ((x : ℕ) → x < length ss → length ss < x + w.width → d x ≡ displaces w.function (channel w.channel s) (value_at w ss x))
        → stepped w.width (length ss) (enters w ss s) d (held w ss) ≡ held w (more ss s)
    unfolding stepped
    held_stepped s d same = rw (held_aged, held_is w (more ss s) keeps, qualifying_after w ss wide s) (by (enters w ss s))
      where
        kept : undisplaced (displaced_by w ss) (staying w ss) ≡ undisplaced (displaced_by w (more ss s)) (staying w ss)
        kept =
            undisplaced_same (displaced_by w ss) (displaced_by w (more ss s)) (λ x. x < length ss)
            (λ i j p q. rw (value_before w ss s i p, value_before w ss s j q) refl)
            (staying w ss) (all_map (λ x h. h.1) (staying w ss) (staying_within w ss))

        test : (x : ℕ) → (suc (length ss) ≤ x + w.width) × (x < length ss) → d x ≡ displaced_by w (more ss s) (length ss) x
        test x h = rw (value_new w ss s, value_before w ss s x h.1) (same x h.1 h.0)

        agree : All (λ x. d x ≡ displaced_by w (more ss s) (length ss) x) (undisplaced (displaced_by w ss) (staying w ss))
        agree = all_undisplaced (displaced_by w ss) _ (staying w ss) (all_map test (staying w ss) (staying_within w ss))

        by : (b : Bool) → cond b (pops d (undisplaced (displaced_by w ss) (staying w ss)) ++ (length ss ∷ [])) (undisplaced (displaced_by w ss) (staying w ss))
            ≡ undisplaced (displaced_by w (more ss s)) (staying w ss ++ one b (length ss))
        by true =
            ap (λ (l : List ℕ). l ++ (length ss ∷ []))
            (pops_same d (displaced_by w (more ss s) (length ss)) _ agree ∙ ap (pops (displaced_by w (more ss s) (length ss))) kept)
            ∙ sym (undisplaced_pops (displaced_by w (more ss s))
            (by_value_law (displaces w.function) (displaces_order w.function keeps) (value_at w (more ss s))) (staying w ss) (length ss))
        by false = rw append-nil kept

    -- there is room for one more
    pub aged_length : length (aged w.width (length ss) (held w ss)) < w.width
    aged_length = rw held_aged (omega (arith, length_undisplaced (displaced_by w ss) (staying w ss), staying_room w ss wide))
