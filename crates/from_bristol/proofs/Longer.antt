-- Of a reader whose bytes are known, a slice that is not filled has all of them: so a text of which fewer bytes were read than the slice takes is no longer than that.
-- Assumes nothing.
use Rattle.std.proofs.Common.{◌≡◌, ap, arith, ℕ, ◌+◌, ◌≤◌, ◌<◌, List, length, take, length-take-le, Result, Ok, Err, Option, None, Some, OnOk, IfSome}
use Rattle.from_bristol.specs.Written.{longest_read}

not_longer : (bs buffer : List ℕ) (n : ℕ) → length buffer ≡ longest_read + 1 → n ≤ longest_read → take (length buffer) bs ≡ take n buffer → longest_read < length bs → ⊥
not_longer bs buffer n l k e m =
    let a = length-take-le (length buffer) bs (omega arith) in
    let b = length-take-le n buffer (omega arith) in
    let c = ap length e in
    omega arith

pub read_whole : {A E : Type 0} (r : Result A E) (o : Option (List ℕ)) (buffer : List ℕ) (n : ℕ) (P : List ℕ → Type 0) → length buffer ≡ longest_read + 1 → n ≤ longest_read → IfSome o (λ bs. take (length buffer) bs ≡ take n buffer) → OnOk r (IfSome o (λ bs. longest_read < length bs → P bs))
read_whole (Ok x) (Some bs) buffer n P l k e = λ m. absurd (not_longer bs buffer n l k e m)
read_whole (Ok x) None buffer n P l k e = tt
read_whole (Err x) o buffer n P l k e = tt
