-- Lists of one length joined: a loop that writes them one after another over a list, and the part of the whole that each is; and lists that are alike, or joined in two runs.
-- Inductions on the number of lists; the lengths place each part.
-- Assumes nothing.
use Rattle.std.proofs.Common.{◌≡◌, ℕ, zero, suc, ◌+◌, ◌-◌, ◌*◌, ◌<◌, ◌≤◌, List, ◌++◌, length, take, drop, sym, refl, ap, ◌∙◌, ap₂, append_assoc, append-nil, add-zero, add-suc, mul-le-mul_right, suc-mul, zero-mul, add-one, arith, length-append, length-drop, drop_of_length-le, take_all, drop-drop, take_at, drop_at}
use native.Mathlib.Decide.{dec_lt}
use lib.Seq.{drop-append-le, take-append-le}
use borrow.Rule.Slice.PartMut.{put_mid}
use Rattle.ring.specs.Lists.{part, joined}

module _ (m : ℕ) (f : ℕ → List ℕ) where
  pub length-joined : (n : ℕ) → ((r : ℕ) → r < n → length (f r) ≡ m) → length (joined n f) ≡ n * m
  unfolding joined
  length-joined zero h = omega arith
  length-joined (suc n) h = simp length-append (let a = length-joined n (λ r l. h r (omega arith)) in let b = h n (omega arith) in omega arith)

  -- list r of n is this part
  pub joined-part : (n : ℕ) → ((r : ℕ) → r < n → length (f r) ≡ m) → (r : ℕ) → r < n → part m (r * m) (joined n f) ≡ f r
  unfolding part joined
  joined-part zero h r l = absurd (let q : ⊥ = omega arith in q)
  joined-part (suc n) h r l = go (joined-part n (λ q k. h q (omega arith)) r) (dec_lt r n)
    where
      before : length (joined n f) ≡ n * m
      before = length-joined n (λ q k. h q (omega arith))

      go : (r < n → take m (drop (r * m) (joined n f)) ≡ f r) → Dec (r < n) → take m (drop (r * m) (joined n f ++ f n)) ≡ f r
      go ih (yes k) =
          let a = mul-le-mul_right m k in
          let z = before in
          let b : r * m ≤ length (joined n f) = omega (arith, suc-mul r m) in
          let e : length (drop (r * m) (joined n f)) ≡ length (joined n f) - r * m = length-drop (r * m) (joined n f) in
          let q : r * m + m ≤ n * m = omega (arith, suc-mul r m) in
          let d : m ≤ length (drop (r * m) (joined n f)) = omega arith in
          rw (drop-append-le (r * m) (joined n f) (f n) b, take-append-le m (drop (r * m) (joined n f)) (f n) d) (ih k)
      go ih (no k) =
          let e : r ≡ n = omega arith in
          rw (e, drop_at (joined n f) (f n) (n * m) before) (take_all m (f n) (let q = h n (omega arith) in omega arith))

-- lists that are alike are alike when joined
pub joined_alike : (n : ℕ) (f g : ℕ → List ℕ) → ((r : ℕ) → r < n → f r ≡ g r) → joined n f ≡ joined n g
unfolding joined
joined_alike zero f g h = refl
joined_alike (suc n) f g h = ap₂ (λ (x y : List ℕ). x ++ y) (joined_alike n f g (λ r l. h r (omega arith))) (h n (omega arith))

-- the first k lists, then the other m
pub joined_split : (k m : ℕ) (f : ℕ → List ℕ) → joined (k + m) f ≡ joined k f ++ joined m (λ r. f (k + r))
unfolding joined
joined_split k zero f = ap (λ (n : ℕ). joined n f) (add-zero k) ∙ sym (append-nil (joined k f))
joined_split k (suc m) f =
    ap (λ (n : ℕ). joined n f) (add-suc k m)
    ∙ ap (λ (x : List ℕ). x ++ f (k + m)) (joined_split k m f)
    ∙ append_assoc (joined k f) (joined m (λ r. f (k + r))) (f (k + m))

-- ---- a loop that writes f 0, f 1, .. over the list o

pub joined_none : (m : ℕ) (f : ℕ → List ℕ) (o : List ℕ) → (length (joined 0 f) ≡ 0 * m) × (o ≡ joined 0 f ++ drop (0 * m) o)
unfolding joined
joined_none m f o = (omega arith, rw (zero-mul m))

module _ (m : ℕ) (f : ℕ → List ℕ) (o : List ℕ) (r : ℕ) {out : List ℕ} (long : length (joined r f) ≡ r * m) (inv : out ≡ joined r f ++ drop (r * m) o) where
  -- one more list, which the part from r * m on was made
  pub joined_more : (row : List ℕ) → row ≡ f r → length row ≡ m
      → (length (joined (r + 1) f) ≡ (r + 1) * m) × (put_mid (r * m) (r * m + m - r * m) out row ≡ joined (r + 1) f ++ drop ((r + 1) * m) o)
  unfolding joined
  joined_more row e l =
      let next : r * m + m ≡ (r + 1) * m = omega arith in
      let count : r * m + m - r * m ≡ m = omega arith in
      let front : take (r * m) out ≡ joined r f = ap (take (r * m)) inv ∙ take_at (joined r f) (drop (r * m) o) (r * m) long in
      let rest : drop (r * m) out ≡ drop (r * m) o = ap (drop (r * m)) inv ∙ drop_at (joined r f) (drop (r * m) o) (r * m) long in
      let back : drop (r * m + m - r * m) (drop (r * m) out) ≡ drop ((r + 1) * m) o = ap₂ drop count rest ∙ drop-drop m (r * m) o ∙ ap (λ (n : ℕ). drop n o) next in
      let whole : joined (r + 1) f ≡ joined r f ++ f r = ap (λ (n : ℕ). joined n f) (add-one r) in (
        ap length whole ∙ simp length-append (let q = ap length e in omega arith),
        ap₂ (λ (x y : List ℕ). x ++ (row ++ y)) front back
            ∙ ap (λ (x : List ℕ). joined r f ++ (x ++ drop ((r + 1) * m) o)) e
            ∙ sym (append_assoc (joined r f) (f r) (drop ((r + 1) * m) o))
            ∙ ap (λ (x : List ℕ). x ++ drop ((r + 1) * m) o) (sym whole),
      )

  pub joined_done : (n : ℕ) → r ≤ n → n ≤ r → length o ≡ n * m → out ≡ joined n f
  joined_done n a b e =
      let q : r ≡ n = omega arith in
      let l : length o ≤ r * m = rw q (omega arith) in
      inv ∙ rw (drop_of_length-le o l, append-nil, q)
