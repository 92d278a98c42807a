-- Rotations by the Rust compose, amounts added modulo 2N: the list goes on past its end complemented, and a rotation moves along it.
-- Assumes nothing.
use Rattle.std.proofs.Common.{◌≡◌, ℕ, ◌+◌, ◌-◌, ◌*◌, ◌/◌, ◌%◌, ◌<◌, ◌≤◌, Bool, cond, ltb, List, sym, ap, ◌∙◌, mod-lt, mod-eq_of_lt, arith, ltb→lt, nltb→le, le-ltb, lt-ltb}
use mathlib.Core.Path.{fun_ext}
use native.Mathlib.Nat.{mod-add-mod, add-mod_right, add-mul-mod_self_left, div-add-mod}
use Rattle.ring.proofs.Value.{Reduced, below, by_test}
use Rattle.ring.proofs.Tab.{at-tab}
use Rattle.ring.specs.Word.{Q, Q_pos, at, comp}
use Rattle.ring.specs.Sums.{tab}
use Rattle.ring.specs.Turn.{source, rotated}

-- place s, below 2N, of a that goes on complemented
unfoldable pub along : ℕ → List ℕ → ℕ → ℕ
along N a s = cond (ltb s N) (at a s) (comp (at a (s - N)))

module _ (N : ℕ) (a : List ℕ) where
  pub along_in : (s : ℕ) → s < N → along N a s ≡ at a s
  unfolding along
  along_in s l = ap (λ (c : Bool). cond c (at a s) (comp (at a (s - N)))) (lt-ltb s N l)

  pub along_out : (s : ℕ) → N ≤ s → along N a s ≡ comp (at a (s - N))
  unfolding along
  along_out s l = ap (λ (c : Bool). cond c (at a s) (comp (at a (s - N)))) (le-ltb s N l)

comp_comp : (x : ℕ) → x < Q → comp (comp x) ≡ x
unfolding comp
comp_comp x l = let q : Q - 1 - x < Q = omega (arith, Q_pos) in
    rw (mod-eq_of_lt l, mod-eq_of_lt q) (omega arith)

by_order : (s N : ℕ) (A : Type 0) → (s < N → A) → (N ≤ s → A) → A
by_order s N A f g = by_test (ltb s N) (λ (c : Bool). A) (λ t. f (ltb→lt s N t)) (λ t. g (nltb→le s N t))

source_below : (N k i : ℕ) → 0 < N → source N k i < N + N
unfolding source
source_below N k i h = mod-lt _ (let q : 0 < N + N = omega arith in q)

-- ---- places

-- N places on
source_on : (N k s : ℕ) → k ≤ N + N → N ≤ s → (source N k (s - N) + N) % (N + N) ≡ source N k s
unfolding source
source_on N k s lk l = mod-add-mod _ (N + N) N ∙ ap (λ (x : ℕ). x % (N + N)) (let q : s - N + (N + N) - k + N ≡ s + (N + N) - k = omega arith in q)

source-source : (N j k i : ℕ) → 0 < N → j ≤ N + N → k ≤ N + N → source N k (source N j i) ≡ source N ((j + k) % (N + N)) i
unfolding source
source-source N j k i h lj lk = first ∙ sym (add-mul-mod_self_left (i + (N + N) - j + ((N + N) - k)) (N + N) q) ∙ ap (λ (x : ℕ). x % (N + N)) whole ∙ add-mod_right _ (N + N)
  where
    q : ℕ
    q = (j + k) / (N + N)

    first : ((i + (N + N) - j) % (N + N) + (N + N) - k) % (N + N) ≡ (i + (N + N) - j + ((N + N) - k)) % (N + N)
    first = ap (λ (x : ℕ). x % (N + N)) (let e : (i + (N + N) - j) % (N + N) + (N + N) - k ≡ (i + (N + N) - j) % (N + N) + ((N + N) - k) = omega arith in e) ∙ mod-add-mod _ (N + N) _

    whole : i + (N + N) - j + ((N + N) - k) + (N + N) * q ≡ i + (N + N) - (j + k) % (N + N) + (N + N)
    whole = let l : (j + k) % (N + N) < N + N = mod-lt (j + k) (let u : 0 < N + N = omega arith in u) in
        omega (arith, div-add-mod (j + k) (N + N))

-- ---- the rotations

module _ (N : ℕ) (h : 0 < N) (a : List ℕ) (ra : Reduced a) where
  -- N places on: complemented
  pub along_turn : (s : ℕ) → s < N + N → along N a ((s + N) % (N + N)) ≡ comp (along N a s)
  along_turn s l = by_order s N _
      (λ u. ap (along N a) (mod-eq_of_lt (let q : s + N < N + N = omega arith in q)) ∙ along_out N a (s + N) (omega arith)
      ∙ ap (λ (x : ℕ). comp (at a x)) (let q : s + N - N ≡ s = omega arith in q) ∙ ap comp (sym (along_in N a s u)))
      (λ u. ap (along N a) (ap (λ (x : ℕ). x % (N + N)) (let q : s + N ≡ s - N + (N + N) = omega arith in q) ∙ add-mod_right (s - N) (N + N) ∙ mod-eq_of_lt (let q : s - N < N + N = omega arith in q))
      ∙ along_in N a (s - N) (omega arith) ∙ sym (ap comp (along_out N a s u) ∙ comp_comp (at a (s - N)) (below ra (s - N))))

  pub along-rotated : (k s : ℕ) → k ≤ N + N → s < N + N → along N (rotated N k a) s ≡ along N a (source N k s)
  unfolding rotated along
  along-rotated k s lk l = by_order s N _
      (λ u. along_in N (rotated N k a) s u ∙ at-rotated s u)
      (λ u. along_out N (rotated N k a) s u ∙ ap comp (at-rotated (s - N) (omega arith))
      ∙ sym (along_turn (source N k (s - N)) (source_below N k (s - N) h)) ∙ ap (along N a) (source_on N k s lk u))
    where
      at-rotated : (i : ℕ) → i < N → at (rotated N k a) i ≡ along N a (source N k i)
      at-rotated i u = at-tab N _ i u

pub rotated-rotated : (N : ℕ) → 0 < N → (a : List ℕ) → Reduced a → (j k : ℕ) → j ≤ N + N → k ≤ N + N
    → rotated N j (rotated N k a) ≡ rotated N ((j + k) % (N + N)) a
unfolding rotated along
rotated-rotated N h a ra j k lj lk = ap (tab N) (fun_ext (λ i.
    along-rotated N h a ra k (source N j i) lk (source_below N j i h) ∙ ap (along N a) (source-source N j k i h lj lk)))
