-- A script: a list of calls as bytes. A call is a kind, a length n of eight bytes, the lowest first, and n bytes, which are its record, or the number of
-- the window that it reads.
--     calls, erroneous     the calls of a script, and whether it ends with an error
--     script_of             the script of a list of calls; specs/Encoded.antt says that every list of calls has one
use Rattle.std.specs.Prelude.{Bool, true, false, cond, not, ◌&&◌, List, [], ◌∷◌, ◌++◌, ◌≡◌, refl, ℕ, zero, suc, ◌+◌, eqb, leb, length, get_or, take, drop}
use Rattle.model.specs.Numbers.{le_val, le_at, le_bytes}
use Rattle.model.specs.Trip.{Call, clear, declare, sample, close, read, verdict}

-- The window's number is little-endian. Bytes past the fourth do not count, and bytes that are missing are 0.
unfoldable pub window_number : List ℕ → ℕ
window_number bytes = le_val (take 4 bytes)

-- the kinds: 0 clear, 1 declare, 2 sample, 3 close, 4 read, 5 verdict; a kind above is not known, and is no call
abbrev pub last_kind : ℕ
last_kind = 5

unfoldable pub call_of : ℕ → List ℕ → Call
call_of kind bytes =
    cond (eqb kind 0) clear
    (cond (eqb kind 1) (declare bytes)
    (cond (eqb kind 2) (sample bytes)
    (cond (eqb kind 3) close
    (cond (eqb kind 4) (read (window_number bytes)) verdict))))

-- bytes of a kind and of the length behind it
abbrev pub head_length : ℕ
head_length = 1 + 8

-- of the call that a script begins with: the length of its bytes, all of it, whether the script has all of it, whether its kind is known, and the call
abbrev pub bytes_length : List ℕ → ℕ
bytes_length script = le_at 8 script 1

abbrev pub call_length : List ℕ → ℕ
call_length script = head_length + bytes_length script

abbrev pub whole : List ℕ → Bool
whole script = leb (call_length script) (length script)

abbrev pub known : List ℕ → Bool
known script = leb (get_or script 0 0) last_kind

abbrev pub ready : List ℕ → Bool
ready script = whole script && known script

unfoldable pub first : List ℕ → Call
first script = call_of (get_or script 0 0) (take (bytes_length script) (drop head_length script))

-- The calls of a script, at most as many as the first argument says. The script ends where no whole call of a known kind is left.
unfoldable pub decode : ℕ → List ℕ → List Call
decode zero script = []
decode (suc most) script = cond (ready script) (first script ∷ decode most (drop (call_length script) script)) []

-- whether it ends with an error: what is left begins with a whole call of a kind that is not known
unfoldable pub fails : ℕ → List ℕ → Bool
fails zero script = false
fails (suc most) script = cond (ready script) (fails most (drop (call_length script) script)) (whole script && not (known script))

-- the calls of a script: they are fewer than its bytes
abbrev pub calls : List ℕ → List Call
calls script = decode (length script) script

abbrev pub erroneous : List ℕ → Bool
erroneous script = fails (length script) script

-- a call of a kind with bytes, as a script has it
unfoldable pub entry : ℕ → List ℕ → List ℕ
entry kind bytes = kind ∷ (le_bytes 8 (length bytes) ++ bytes)

-- the script of a call, and of a list of calls; a window's number has four bytes
unfoldable pub entry_of : Call → List ℕ
entry_of clear = entry 0 []
entry_of (declare r) = entry 1 r
entry_of (sample r) = entry 2 r
entry_of close = entry 3 []
entry_of (read k) = entry 4 (le_bytes 4 k)
entry_of verdict = entry 5 []

unfoldable pub script_of : List Call → List ℕ
script_of [] = []
script_of (c ∷ cs) = entry_of c ++ script_of cs

-- for instance: clear, read window 3, read window 1 with a fifth byte that does not count, a verdict, and a call whose byte is missing
example :
    calls (entry 0 [] ++ (entry 4 (3 ∷ []) ++ (entry 4 (1 ∷ 0 ∷ 0 ∷ 0 ∷ 9 ∷ []) ++ (entry 5 [] ++ (3 ∷ 1 ∷ 0 ∷ 0 ∷ 0 ∷ 0 ∷ 0 ∷ 0 ∷ 0 ∷ [])))))
    ≡ clear ∷ read 3 ∷ read 1 ∷ verdict ∷ []
unfolding decode first call_of window_number le_val le_at le_bytes entry
example = refl

-- and clear, then a kind that is not known: an error, and the verdict behind it is no call
unknown_example :
    (calls (entry 0 [] ++ (entry 6 [] ++ entry 5 [])) ≡ clear ∷ []) × (erroneous (entry 0 [] ++ (entry 6 [] ++ entry 5 [])) ≡ true)
unfolding decode fails first call_of window_number le_val le_at le_bytes entry
unknown_example = (refl, refl)
