-- What a read into a part of a buffer adds to the bytes before it. Assumes nothing.
use Rattle.std.proofs.Common.{◌≡◌, ℕ, ◌+◌, ◌≤◌, List, ◌++◌, length, take, take-add, drop_at, length-take-le}
use lib.Seq.{take-append-le}
use borrow.Rule.Slice.PartMut.{put_mid, post_of, take_put}

pub take_read :
    (a k n : ℕ) (xs ys : List ℕ) → a ≤ length xs → n ≤ length ys
    → take (a + n) (put_mid a k xs ys) ≡ take a xs ++ take n ys
take_read a k n xs ys h l =
    let rest : List ℕ = post_of a k xs in
    rw (take-add a n (put_mid a k xs ys), take_put a k xs ys h, drop_at (take a xs) (ys ++ rest) a (length-take-le a xs h), take-append-le n ys rest l)
