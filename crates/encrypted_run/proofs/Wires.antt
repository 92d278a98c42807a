-- The wires' ciphertexts, gate after gate: how many words there are, what a list written in its place makes of a slice, and the invariant of the loop
-- over the gates, `ciphers_to … g ++ drop ((inputs + g) · (n + 1)) …`. Inductions on the number of gates; the lengths place each part.
-- Assumes nothing.
use mathlib.Core.Path.{◌≡◌, sym, ap, ap₂, ◌∙◌}
use mathlib.Core.List.{List, ◌++◌, append_assoc, append-nil}
use Prim.Native.Nat.{ℕ, zero, suc, ◌+◌, ◌*◌, ◌-◌, ◌≤◌}
use native.Mathlib.Nat.{mul-le-mul_right, add-zero, add-sub_cancel_left, le_antisymm}
use native.Mathlib.Numerals.{add-one}
use native.Mathlib.Omega.{arith}
use lib.ListN.{length, take, drop, length-append, length-drop, take-append-drop, drop_of_length-le}
use lib.Seq.{length-take-le, take_at, drop_at, drop-drop}
use borrow.Rule.Slice.PartMut.{put_mid}
use Rattle.params.specs.declared.Params.{Params}
use Rattle.circuit.specs.Form.{inputs, gates, wires}
use Rattle.words.specs.Copy.{copied}
use Rattle.words.proofs.Loops.{copied_all, copied_front}
use Rattle.encrypted_run.specs.Run.{gate_cipher, ciphers_to, ciphers_of, stepped}
use Rattle.ways.proofs.Ciphers.{ran-length}
use Rattle.ring.specs.Lists.{joined}

-- ---- a list of m words in place w of lists of m words each

-- written over the words that stand there
pub put_made : (m w : ℕ) (c into : List ℕ) {part : List ℕ} → length c ≡ m → w * m + m ≤ length into
    → part ≡ copied c (take (w * m + m - w * m) (drop (w * m) into))
    → put_mid (w * m) (w * m + m - w * m) into part ≡ take (w * m) into ++ c ++ drop ((w + 1) * m) into
put_made m w c into {part} lc h e =
    let count : w * m + m - w * m ≡ m = add-sub_cancel_left (w * m) m in
    let there = take (w * m + m - w * m) (drop (w * m) into) in
    let long : length there ≡ w * m + m - w * m = length-take-le (w * m + m - w * m) (drop (w * m) into) (rw (length-drop (w * m) into) (omega arith)) in
    let whole : part ≡ c = e ∙ copied_all c there (lc ∙ sym count ∙ sym long) in
    let next : w * m + m ≡ (w + 1) * m = omega arith in
    let back : drop (w * m + m - w * m) (drop (w * m) into) ≡ drop ((w + 1) * m) into = ap (λ (k : ℕ). drop k (drop (w * m) into)) count ∙ drop-drop m (w * m) into ∙ ap (λ (k : ℕ). drop k into) next in
    ap₂ (λ (x y : List ℕ). take (w * m) into ++ (x ++ y)) whole back ∙ sym (append_assoc (take (w * m) into) c (drop ((w + 1) * m) into))

-- the same behind k such lists, the rest being that of o: one list more
pub put_next : (m k : ℕ) (front row o : List ℕ) {held : List ℕ} → length front ≡ k * m → held ≡ front ++ drop (k * m) o
    → take (k * m) held ++ row ++ drop ((k + 1) * m) held ≡ (front ++ row) ++ drop ((k + 1) * m) o
put_next m k front row o {held} l e =
    let next : (k + 1) * m ≡ k * m + m = omega arith in
    let first : take (k * m) held ≡ front = ap (take (k * m)) e ∙ take_at front (drop (k * m) o) (k * m) l in
    let rest : drop (k * m) held ≡ drop (k * m) o = ap (drop (k * m)) e ∙ drop_at front (drop (k * m) o) (k * m) l in
    let back : drop ((k + 1) * m) held ≡ drop ((k + 1) * m) o = ap (λ (n : ℕ). drop n held) next ∙ sym (drop-drop m (k * m) held) ∙ ap (drop m) rest ∙ drop-drop m (k * m) o ∙ ap (λ (n : ℕ). drop n o) (sym next) in
    ap₂ (λ (x y : List ℕ). (x ++ row) ++ y) first back

-- a list joined to others
pub joined_next : (f : ℕ → List ℕ) (k : ℕ) → joined (k + 1) f ≡ joined k f ++ f k
unfolding joined
joined_next f k = ap (λ (n : ℕ). joined n f) (add-one k)

-- ---- the wires

-- the words of the first wires lie within those of all
pub fits : (p : Params) (bs : List ℕ) (n : ℕ) → n ≤ gates bs → (inputs bs + n) * (p.n + 1) ≤ wires bs * (p.n + 1)
fits p bs n h = let l : inputs bs + n ≤ wires bs = omega (arith, h) in mul-le-mul_right (p.n + 1) l

pub inputs_fit : (p : Params) (bs : List ℕ) → inputs bs * (p.n + 1) ≤ wires bs * (p.n + 1)
inputs_fit p bs = let l : inputs bs ≤ wires bs = omega arith in mul-le-mul_right (p.n + 1) l

module _ (p : Params) (ksk bsk bs : List ℕ) where
  -- every gate has n + 1 words
  pub gate_length : (ws : List ℕ) (g : ℕ) → length (gate_cipher p ksk bsk bs ws g) ≡ p.n + 1
  unfolding gate_cipher
  gate_length ws g = ran-length p ksk bsk _ _ _ _

  pub ciphers_length : (ins : List ℕ) (g : ℕ) → length (ciphers_to p ksk bsk bs ins g) ≡ length ins + g * (p.n + 1)
  unfolding ciphers_to
  ciphers_length ins zero = omega arith
  ciphers_length ins (suc g) =
      let ws = ciphers_to p ksk bsk bs ins g in
      let e = length-append ws (gate_cipher p ksk bsk bs ws g) in
      let i = ciphers_length ins g in
      let d = gate_length ws g in
      omega arith

  pub ciphers_more : (ins : List ℕ) (g : ℕ) → ciphers_to p ksk bsk bs ins (g + 1) ≡ ciphers_to p ksk bsk bs ins g ++ gate_cipher p ksk bsk bs (ciphers_to p ksk bsk bs ins g) g
  unfolding ciphers_to
  ciphers_more ins g = rw (add-one g)

  -- ---- the loop over the gates, which begins with the words ws

  module _ (ws : List ℕ) (h : inputs bs * (p.n + 1) ≤ length ws) where
    pub held_length : (g : ℕ) → length (ciphers_to p ksk bsk bs (take (inputs bs * (p.n + 1)) ws) g) ≡ (inputs bs + g) * (p.n + 1)
    held_length g =
        let e = ciphers_length (take (inputs bs * (p.n + 1)) ws) g in
        let l = length-take-le (inputs bs * (p.n + 1)) ws h in
        omega arith

    pub run_none : ws ≡ ciphers_to p ksk bsk bs (take (inputs bs * (p.n + 1)) ws) 0 ++ drop ((inputs bs + 0) * (p.n + 1)) ws
    unfolding ciphers_to
    run_none = rw (add-zero (inputs bs)) (sym (take-append-drop (inputs bs * (p.n + 1)) ws))

    pub run_more : (g : ℕ) {held : List ℕ} → held ≡ ciphers_to p ksk bsk bs (take (inputs bs * (p.n + 1)) ws) g ++ drop ((inputs bs + g) * (p.n + 1)) ws
        → stepped p ksk bsk bs g held ≡ ciphers_to p ksk bsk bs (take (inputs bs * (p.n + 1)) ws) (g + 1) ++ drop ((inputs bs + (g + 1)) * (p.n + 1)) ws
    unfolding stepped
    run_more g {held} e =
        let m = p.n + 1 in
        let own = inputs bs + g in
        let front = ciphers_to p ksk bsk bs (take (inputs bs * m) ws) g in
        let first : take (own * m) held ≡ front = ap (take (own * m)) e ∙ take_at front (drop (own * m) ws) (own * m) (held_length g) in
        let row = gate_cipher p ksk bsk bs (take (own * m) held) g in
        let same : row ≡ gate_cipher p ksk bsk bs front g = ap (λ (x : List ℕ). gate_cipher p ksk bsk bs x g) first in
        let next : inputs bs + g + 1 ≡ inputs bs + (g + 1) = omega arith in
        put_next m own front row ws (held_length g) e
        ∙ ap₂ (λ (x : List ℕ) (k : ℕ). (front ++ x) ++ drop (k * m) ws) same next
        ∙ ap (λ (x : List ℕ). x ++ drop ((inputs bs + (g + 1)) * m) ws) (sym (ciphers_more (take (inputs bs * m) ws) g))

    -- the loop's end: the slice holds nothing but the wires
    pub run_end : (g : ℕ) {held : List ℕ} → g ≤ gates bs → gates bs ≤ g → length ws ≡ wires bs * (p.n + 1)
        → held ≡ ciphers_to p ksk bsk bs (take (inputs bs * (p.n + 1)) ws) g ++ drop ((inputs bs + g) * (p.n + 1)) ws
        → held ≡ ciphers_of p ksk bsk bs (take (inputs bs * (p.n + 1)) ws)
    run_end g {held} a b l e =
        let q : g ≡ gates bs = le_antisymm a b in
        let all : length ws ≤ (inputs bs + gates bs) * (p.n + 1) = omega arith in
        e ∙ ap (λ (k : ℕ). ciphers_to p ksk bsk bs (take (inputs bs * (p.n + 1)) ws) k ++ drop ((inputs bs + k) * (p.n + 1)) ws) q
        ∙ ap (λ (x : List ℕ). ciphers_of p ksk bsk bs (take (inputs bs * (p.n + 1)) ws) ++ x) (drop_of_length-le ws all)
        ∙ append-nil (ciphers_of p ksk bsk bs (take (inputs bs * (p.n + 1)) ws))

-- ---- one gate in its place, as the code writes it

pub step_made : (p : Params) (ksk bsk bs ws : List ℕ) (g : ℕ) {i : ℕ} {c out : List ℕ} → i ≡ inputs bs
    → c ≡ gate_cipher p ksk bsk bs (take ((inputs bs + g) * (p.n + 1)) ws) g
    → out ≡ take ((i + g) * (p.n + 1)) ws ++ c ++ drop ((i + g + 1) * (p.n + 1)) ws → out ≡ stepped p ksk bsk bs g ws
unfolding stepped
step_made p ksk bsk bs ws g {i} {c} {out} ei ec e = e ∙ ap₂ (λ (k : ℕ) (x : List ℕ). take ((k + g) * (p.n + 1)) ws ++ x ++ drop ((k + g + 1) * (p.n + 1)) ws) ei ec

-- the inputs, put in front of the wires
pub start_made : (p : Params) (ksk bsk bs ins ws : List ℕ) {held out : List ℕ} → length ins ≡ inputs bs * (p.n + 1) → length ins ≤ length ws → held ≡ copied ins ws
    → out ≡ ciphers_of p ksk bsk bs (take (inputs bs * (p.n + 1)) held) → out ≡ ciphers_of p ksk bsk bs ins
start_made p ksk bsk bs ins ws {held} {out} l h eh e =
    e ∙ ap (ciphers_of p ksk bsk bs) (ap (take (inputs bs * (p.n + 1))) (eh ∙ copied_front ins ws h) ∙ take_at ins (drop (length ins) ws) (inputs bs * (p.n + 1)) l)
