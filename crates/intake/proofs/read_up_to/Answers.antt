-- What a read gave is put behind what was read before, so that the front of the slice stays what the reader has lost.
use Rattle.std.proofs.Common.{◌≡◌, ℕ, ◌+◌, ◌-◌, ◌≤◌, List, ◌++◌, rules, length, take, drop, sym, ap, ap₂, ◌∙◌, subst, le_refl, drop_at, length-take-le}
use Rattle.std.proofs.lemmas.Slice.{take-put_mid_below}
use Rattle.std.specs.Io.KnownBytes.{Consumes}
use Rattle.std.proofs.KnownBytes.{Consumes-trans}
use borrow.Rule.Slice.PartMut.{put_mid, post_of}
use lib.Seq.{take-add, take-append-le}
use Rattle.intake.proofs.read_up_to.Goals as goal

-- the front of a slice of which n elements from a on are ys
front : (a k n : ℕ) (xs ys : List ℕ) → a ≤ length xs → n ≤ length ys → take a xs ++ take n ys ≡ take (a + n) (put_mid a k xs ys)
front a k n xs ys within fits =
    let new = put_mid a k xs ys in
    let behind : drop a new ≡ ys ++ post_of a k xs = drop_at (take a xs) (ys ++ post_of a k xs) a (length-take-le a xs within) in
    let part : take n (drop a new) ≡ take n ys = ap (take n) behind ∙ take-append-le n ys (post_of a k xs) fits in
    ap₂ (λ l m. l ++ m) (sym (take-put_mid_below _ _ _ _ _ (le_refl _) within)) (sym part) ∙ sym (take-add a n new)

pub loop-done-preserved : goal.loop-done-preserved
loop-done-preserved g c =
    let l = c.loop-done in
    let joined = front l.done (length l.buffer - l.done) c.in_ok-n.n l.buffer c.read.new.buf l.invariant.0 c.in_ok-n.ensures.bound.0 in
    (search rules, search rules, subst (Consumes _ _) joined (Consumes-trans _ _ _ _ _ l.invariant.2 c.in_ok-n.ensures.bytes.0))
