-- The lengths of ciphertexts, and where one lies among others: a wire's within its slice, one in the front of a list, the one behind the front. Every way gives n + 1 words.
-- Assumes nothing.
use mathlib.Core.Path.{◌≡◌, refl, sym, ap, ◌∙◌}
use mathlib.Core.Bool.{Bool, true, false, cond}
use mathlib.Core.List.{List, ◌++◌}
use Prim.Native.Nat.{ℕ, ◌+◌, ◌*◌, ◌-◌, ◌/◌, ◌≤◌, ◌<◌}
use native.Mathlib.Nat.{mul-le-mul_right, div-add-mod, mod-lt}
use native.Mathlib.Omega.{arith}
use borrow.Author.Tests.{leb-true, leb-false, le-leb, lt-leb}
use lib.Dec.{leb}
use lib.ListN.{length, take, drop, length-drop, drop_of_length-le}
use lib.Seq.{length-take-le, drop_at, drop-append-le, drop-append-add, take-append-le, take_all}
use Rattle.ring.specs.Lists.{part}
use Rattle.params.specs.declared.Params.{Params}
use Rattle.params.specs.Ranges.{params_number}
use Rattle.params.proofs.Ranges.{in_range}
use Rattle.switching.proofs.Checks.{switched-length}
use Rattle.gate_sums.proofs.Sums.{constant_length}
use Rattle.gates.proofs.Chain.{negative-length}
use Rattle.ways.specs.declared.Way.{Way}
use Rattle.ways.specs.declared.Way.TheVariants.{Known, Negated, Gate, NegatedGate, Choice}
use Rattle.ways.specs.Ways.{made, ran}
use Rattle.ways.specs.Ciphers.{cipher_at}
use Rattle.ways.specs.Private.{lesser, Within}

pub cipher_length : (p : Params) (ws : List ℕ) (w : ℕ) → Within p w (length ws) → length (cipher_at p ws w) ≡ p.n + 1
unfolding cipher_at part
cipher_length p ws w h = length-take-le (p.n + 1) (drop (w * (p.n + 1)) ws) (rw (length-drop (w * (p.n + 1)) ws) (omega arith))

pub ran-length : (p : Params) (ksk bsk : List ℕ) (way : Way) (a b c : List ℕ) → length (ran p ksk bsk way a b c) ≡ p.n + 1
unfolding ran made
ran-length p ksk bsk (Known bit) a b c = constant_length p bit
ran-length p ksk bsk Negated a b c = negative-length (p.n + 1) a
ran-length p ksk bsk (Gate kind) a b c = switched-length p ksk _
ran-length p ksk bsk (NegatedGate kind) a b c = negative-length (p.n + 1) _
ran-length p ksk bsk Choice a b c = switched-length p ksk _

-- so many ciphertexts have at most so many words
pub words_to : (p : Params) (count : ℕ) → params_number p ≡ 0 → count ≤ 1280 → count * (p.n + 1) ≤ 1409280
words_to p count z h = let m = mul-le-mul_right (p.n + 1) h in let r = in_range p z in omega arith

-- a wire among so many lies within their words
pub wire_within : (p : Params) (w count : ℕ) → w + 1 ≤ count → Within p w (count * (p.n + 1))
wire_within p w count h = let m = mul-le-mul_right (p.n + 1) h in omega arith

-- ---- a ciphertext among others

-- one that lies in the front
pub cipher_front : (p : Params) (front back : List ℕ) (w : ℕ) → Within p w (length front) → cipher_at p (front ++ back) w ≡ cipher_at p front w
unfolding cipher_at part
cipher_front p front back w h =
    let m = p.n + 1 in
    let l = length-drop (w * m) front in
    let a : w * m ≤ length front = omega arith in
    let b : m ≤ length (drop (w * m) front) = omega arith in
    ap (take m) (drop-append-le (w * m) front back a) ∙ take-append-le m (drop (w * m) front) back b

-- the one behind the front
pub cipher_next : (p : Params) (front row : List ℕ) (w : ℕ) → length front ≡ w * (p.n + 1) → length row ≡ p.n + 1 → cipher_at p (front ++ row) w ≡ row
unfolding cipher_at part
cipher_next p front row w l r = ap (take (p.n + 1)) (drop_at front row (w * (p.n + 1)) l) ∙ take_all (p.n + 1) row (omega arith)

-- one behind a front of c ciphertexts
pub cipher_behind : (p : Params) (front back : List ℕ) (c w : ℕ) → length front ≡ c * (p.n + 1) → cipher_at p (front ++ back) (c + w) ≡ cipher_at p back w
unfolding cipher_at part
cipher_behind p front back c w l =
    let e : (c + w) * (p.n + 1) ≡ length front + w * (p.n + 1) = omega (arith, l) in
    ap (take (p.n + 1)) (ap (λ (n : ℕ). drop n (front ++ back)) e ∙ drop-append-add front back (w * (p.n + 1)))

-- ---- what there is of a ciphertext, as the code cuts it

-- the less of two is at most each
pub lesser_first : (a b : ℕ) → lesser a b ≤ a
unfolding lesser
lesser_first a b = go (leb a b) refl
  where
    go : (t : Bool) → leb a b ≡ t → cond t a b ≤ a
    go true e = omega arith
    go false e = let h = leb-false a b e in omega arith

pub lesser_second : (a b : ℕ) → lesser a b ≤ b
unfolding lesser
lesser_second a b = go (leb a b) refl
  where
    go : (t : Bool) → leb a b ≡ t → cond t a b ≤ b
    go true e = leb-true a b e
    go false e = omega arith

-- where a ciphertext begins, by the quotient
pub place_in : (w m len : ℕ) → 0 < m → w ≤ len / m → w * m ≤ len
place_in w m len z h = let a = mul-le-mul_right m h in let d = div-add-mod len m in omega (arith, a, d)

pub place_is : (w m len : ℕ) → 0 < m → w ≤ len / m → w * m ≡ lesser (w * m) len
unfolding lesser
place_is w m len z h = rw (le-leb (w * m) len (place_in w m len z h))

pub place_beyond : (w m len : ℕ) → 0 < m → len / m < w → len < w * m
place_beyond w m len z h = let a = mul-le-mul_right m h in let d = div-add-mod len m in let r = mod-lt len z in omega (arith, a, d, r)

pub place_past : (w m len : ℕ) → 0 < m → len / m < w → len ≡ lesser (w * m) len
unfolding lesser
place_past w m len z h = rw (lt-leb (w * m) len (place_beyond w m len z h))

-- cutting at the end of the list takes nothing away
drop-lesser : (s : ℕ) (l : List ℕ) → drop (lesser s (length l)) l ≡ drop s l
unfolding lesser
drop-lesser s l = go (leb s (length l)) refl
  where
    go : (t : Bool) → leb s (length l) ≡ t → drop (cond t s (length l)) l ≡ drop s l
    go true e = refl
    go false e = let h = leb-false s (length l) e in let a : length l ≤ s = omega arith in let b : length l ≤ length l = omega arith in drop_of_length-le l b ∙ sym (drop_of_length-le l a)

take-lesser : (m : ℕ) (l : List ℕ) → take (lesser m (length l)) l ≡ take m l
unfolding lesser
take-lesser m l = go (leb m (length l)) refl
  where
    go : (t : Bool) → leb m (length l) ≡ t → take (cond t m (length l)) l ≡ take m l
    go true e = refl
    go false e = let h = leb-false m (length l) e in let a : length l ≤ m = omega arith in let b : length l ≤ length l = omega arith in take_all (length l) l b ∙ sym (take_all m l a)

pub cut : (p : Params) (ws : List ℕ) (w : ℕ) {from to : ℕ} → from ≡ lesser (w * (p.n + 1)) (length ws) → to ≡ from + lesser (p.n + 1) (length ws - from) → take (to - from) (drop from ws) ≡ cipher_at p ws w
unfolding cipher_at part
cut p ws w {from} {to} ef et =
    let m = p.n + 1 in
    let count : to - from ≡ lesser m (length ws - from) = omega arith in
    let whole : drop from ws ≡ drop (w * m) ws = ap (λ (k : ℕ). drop k ws) ef ∙ drop-lesser (w * m) ws in
    ap (λ (k : ℕ). take k (drop from ws)) (count ∙ ap (lesser m) (sym (length-drop from ws))) ∙ take-lesser m (drop from ws) ∙ ap (take m) whole
