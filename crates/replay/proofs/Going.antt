-- What holds after some calls of a script, one call more, and each way out. Assumes nothing.
use mathlib.Core.Bool.{true, false, not, ◌&&◌}
use mathlib.Core.List.{List, [], ◌∷◌, ◌++◌, append_assoc, append-nil}
use mathlib.Core.Path.{◌≡◌, refl, sym, ap, ◌∙◌}
use Prim.Native.Nat.{ℕ, zero, suc, ◌+◌, ◌*◌, ◌-◌, ◌/◌, ◌≤◌, ◌<◌}
use native.Mathlib.Omega.{arith}
use lib.Dec.{leb}
use lib.ListN.{length, get_or, take, drop, length-append, length-drop}
use lib.Seq.{take_at, take_all}
use borrow.Author.Tests.{le-leb, lt-leb, leb-true}
use Rattle.steps.specs.Step.{Step, Run, done, call, aside}
use Rattle.field.specs.Le.{bytes_length_lem}
use Rattle.field.specs.Part.{put, part, put_nil, put_append, put_length, part_same, part_after}
use Rattle.model.specs.Numbers.{unsigned}
use Rattle.model.specs.Answers.{finding_code}
use Rattle.model.specs.Trip.{Call, Answer, number, judged, refused}
use Rattle.script.specs.Script.{last_kind, call_of, call_length, whole, known, ready, first, decode, fails, calls, erroneous}
use Rattle.script.specs.Next.{bytes_of}
use Rattle.answers.specs.Answers.{answer_length, encode, encodes}
use Rattle.replay.specs.Replayed.{fitting, ended_of, failed_of, Called, Replayed}
use Rattle.replay.specs.declared.Ending.{Ending}
use Rattle.replay.specs.declared.Ending.TheVariants.{NoRoom, ScriptEnd, UnknownKind}

-- the first calls of the script were made, from the area s₀ and the output o₀, which are now s and o; `rest` is left of the script
pub record Going (s₀ script o₀ s o rest : List ℕ) (made written : ℕ) : Type 0 where
  pub performed : List Call
  pub given : List Answer
  pub run : Run s₀ performed given s
  pub wrote : o ≡ put o₀ 0 (encodes given)
  pub count : made ≡ length performed
  pub answered : made ≡ length given
  pub size : written ≡ answer_length * made
  pub room : written ≤ length o₀
  pub passed : length rest + 2 * made ≤ length script
  pub area : length s ≡ length s₀
  pub out : length o ≡ length o₀
  pub next : calls script ≡ performed ++ decode (length script - made) rest
  pub error : erroneous script ≡ fails (length script - made) rest

pub going_start : (s script o : List ℕ) → Going s script o s o script 0 0
unfolding encodes
going_start s script o =
    let e : length script - 0 ≡ length script = omega arith in
    record {
      performed = [];
      given = [];
      run = done;
      wrote = sym (put_nil o 0);
      count = refl;
      answered = refl;
      size = refl;
      room = omega arith;
      passed = omega arith;
      area = refl;
      out = refl;
      next = rw e;
      error = rw e;
    }

-- one call more at the end of a list
more : {s s' s'' : List ℕ} {cs : List Call} {as' : List Answer} {c : Call} {a : Answer} → Run s cs as' s' → Step c s' a s'' → Run s (cs ++ (c ∷ [])) (as' ++ (a ∷ [])) s''
more done st = call st done
more (call one run) st = call one (more run st)
more (aside view lent lent' wrong one run) st = aside view lent lent' wrong one (more run st)

encode_length : (a : Answer) → length (encode a) ≡ answer_length
unfolding encode
encode_length (number z) = ap suc (bytes_length_lem 8 (unsigned 8 z))
encode_length (refused k) = ap suc (bytes_length_lem 8 k)
encode_length (judged v) = rw length-append (omega (arith, bytes_length_lem 4 v.broken, bytes_length_lem 3 (finding_code v.finding)))

encodes_length : (as' : List Answer) → length (encodes as') ≡ answer_length * length as'
unfolding encodes
encodes_length [] = refl
encodes_length (a ∷ as') = rw length-append (omega (arith, encode_length a, encodes_length as'))

encodes_more : (as' : List Answer) (a : Answer) → encodes (as' ++ (a ∷ [])) ≡ encodes as' ++ encode a
unfolding encodes
encodes_more [] a = append-nil (encode a)
encodes_more (x ∷ xs) a = rw (encodes_more xs a, append_assoc)

-- what was put at the start, and what lies past it
put_start : (xs ys : List ℕ) → length ys ≤ length xs → take (length ys) (put xs 0 ys) ≡ ys
unfolding part
put_start xs ys h = part_same xs 0 ys (omega arith)

put_past : (xs ys : List ℕ) → drop (length ys) (put xs 0 ys) ≡ drop (length ys) xs
unfolding part
put_past xs ys =
    sym (take_all (length xs) (drop (length ys) (put xs 0 ys)) (omega (arith, length-drop (length ys) (put xs 0 ys), put_length xs 0 ys)))
    ∙ part_after xs 0 ys (length ys) (length xs) (omega arith)
    ∙ take_all (length xs) (drop (length ys) xs) (omega (arith, length-drop (length ys) xs))

-- a script that begins with a call to make, with one of an unknown kind, and with no whole one
ready_more : (most : ℕ) (script : List ℕ) → 0 < most → ready script ≡ true
    → (decode most script ≡ first script ∷ decode (most - 1) (drop (call_length script) script)) × (fails most script ≡ fails (most - 1) (drop (call_length script) script))
unfolding decode fails
ready_more zero script p w = absurd (omega arith)
ready_more (suc most) script p w =
    let e : suc most - 1 ≡ most = omega arith in
    (rw (w, e), rw (w, e))

decode_end : (most : ℕ) (script : List ℕ) → ready script ≡ false → decode most script ≡ []
unfolding decode
decode_end zero script w = refl
decode_end (suc most) script w = rw w

fails_end : (most : ℕ) (script : List ℕ) → ready script ≡ false → length script ≤ 2 * most → fails most script ≡ (whole script && not (known script))
unfolding fails
fails_end zero script w h = rw (lt-leb (call_length script) (length script) (omega arith))
fails_end (suc most) script w h = rw w

module _ {s₀ script o₀ s o rest : List ℕ} {made written : ℕ} (g : Going s₀ script o₀ s o rest made written) where
  finish : (e : Ending) → ended_of e ≡ leb (length (calls script)) (length o₀ / answer_length) → failed_of e ≡ (ended_of e && erroneous script)
      → fitting script (length o₀) ≡ g.performed → Replayed script s₀ o₀ (record { made = made; written = written; ending = e }) s o
  finish ending n f e =
      let l : length (encodes g.given) ≡ written = omega (arith, encodes_length g.given, g.answered, g.size) in
      record {
        made = rw e g.count;
        written = g.size;
        ended = n;
        failed = f;
        given = g.given;
        run = rw e g.run;
        wrote = rw (g.wrote, ← l) (put_start o₀ (encodes g.given) (omega arith));
        past = rw (g.wrote, ← l) (put_past o₀ (encodes g.given));
      }

  -- the next call is to be made
  module _ (w : whole rest ≡ true) (k : get_or rest 0 0 ≤ last_kind) where
    is_ready : ready rest ≡ true
    is_ready = rw (w, le-leb (get_or rest 0 0) last_kind k)

    some_left : call_length rest ≤ length rest
    some_left = leb-true (call_length rest) (length rest) w

    -- the calls of the script, with that one
    following : calls script ≡ (g.performed ++ (first rest ∷ [])) ++ decode (length script - made - 1) (drop (call_length rest) rest)
    following = g.next ∙ rw ((ready_more (length script - made) rest (omega (arith, some_left)) is_ready).0, append_assoc)

    pub going_more : {c : Call} {rest' s' o' : List ℕ} → c ≡ call_of (get_or rest 0 0) (bytes_of rest) → rest' ≡ drop (call_length rest) rest
        → Called c s o written s' o' → written + answer_length ≤ length o₀ → length s' ≡ length s → length o' ≡ length o
        → Going s₀ script o₀ s' o' rest' (made + 1) (written + answer_length)
    unfolding first
    going_more {c} {rest'} {s'} {o'} is e made-call h ls lo =
        let f : length script - (made + 1) ≡ length script - made - 1 = omega arith in
        let at : written ≡ 0 + length (encodes g.given) = omega (arith, encodes_length g.given, g.answered, g.size) in
        record {
          performed = g.performed ++ (first rest ∷ []);
          given = g.given ++ (made-call.answer ∷ []);
          run = more g.run (rw is at made-call.step);
          wrote = made-call.wrote ∙ rw (g.wrote, at, encodes_more g.given made-call.answer) (put_append o₀ 0 (encodes g.given) (encode made-call.answer));
          count = rw length-append (omega arith);
          answered = rw length-append (omega arith);
          size = omega arith;
          room = h;
          passed = omega (arith, some_left, ap length e, length-drop (call_length rest) rest);
          area = ls ∙ g.area;
          out = lo ∙ g.out;
          next = rw (e, f) following;
          error = rw (e, f) (g.error ∙ (ready_more (length script - made) rest (omega (arith, some_left)) is_ready).1);
        }

    -- its answer has no room
    pub full : length o₀ < written + answer_length → Replayed script s₀ o₀ (record { made = made; written = written; ending = NoRoom }) s o
    full h =
        let l : length g.performed ≡ length o₀ / answer_length = omega arith in
        let m : length g.performed < length (calls script) = rw (following, length-append, length-append) (omega arith) in
        finish NoRoom (sym (lt-leb (length (calls script)) (length o₀ / answer_length) (omega arith))) refl
        (rw g.next (take_at g.performed (decode (length script - made) rest) (length o₀ / answer_length) l))

  -- no call to make is left
  all_made : ready rest ≡ false → (e : Ending) → ended_of e ≡ true → failed_of e ≡ (whole rest && not (known rest))
      → Replayed script s₀ o₀ (record { made = made; written = written; ending = e }) s o
  all_made w ending n f =
      let e : calls script ≡ g.performed = g.next ∙ rw (decode_end (length script - made) rest w) (append-nil g.performed) in
      let h : length g.performed ≤ length o₀ / answer_length = omega arith in
      let x : erroneous script ≡ (whole rest && not (known rest)) = g.error ∙ fails_end (length script - made) rest w (omega arith) in
      finish ending (n ∙ rw (e, le-leb _ _ h)) (f ∙ rw (n, x)) (rw e (take_all (length o₀ / answer_length) g.performed h))

  -- what is left begins with no whole call, or with one of an unknown kind
  pub spent : whole rest ≡ false → Replayed script s₀ o₀ (record { made = made; written = written; ending = ScriptEnd }) s o
  spent w = all_made (rw w) ScriptEnd refl (rw w)

  pub unknown : whole rest ≡ true → last_kind < get_or rest 0 0 → Replayed script s₀ o₀ (record { made = made; written = written; ending = UnknownKind }) s o
  unknown w k =
      let l : known rest ≡ false = lt-leb (get_or rest 0 0) last_kind k in
      all_made (rw (w, l)) UnknownKind refl (rw (w, l))
