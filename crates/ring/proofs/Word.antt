-- The numbers below M, with sums and products reduced modulo M, are a commutative ring (`word_ring`); `word n` is n reduced.
-- Assumes nothing.
use Rattle.std.proofs.Common.{◌≡◌, ℕ, zero, suc, ◌+◌, ◌-◌, ◌*◌, ◌/◌, ◌%◌, ◌<◌, ◌≤◌, sym, refl, ap, ◌∙◌, add-zero as +-zero, add_assoc as +_assoc, mod-lt, mod-eq_of_lt, mul_assoc as *-assoc, mul_comm as *-comm, add_comm as +_comm, mul-add as *-+, arith}
use mathlib.Core.HLevel.{Σ_set, Σ_prop_path, prop→set, hedberg}
use native.Mathlib.Nat.{mod-add-mod, add-mod-mod, mod_self, mod-mod, zero-mod, add-mod, div-add-mod, add-mul-mod_self_left}
use native.Mathlib.Decide.{ℕ_discrete}
use native.Mathlib.Bridge.{le_prop}
use Rattle.ring.specs.Sums.{sum_to}
use Rattle.ring.proofs.Ring.{CommRing, neg_unique, neg_sum}
use Rattle.ring.proofs.Sum.{sum}

pub mod-mul-mod : (a b m : ℕ) → a % m * b % m ≡ a * b % m
mod-mul-mod a b m =
    sym (add-mul-mod_self_left (a % m * b) m (a / m * b))
    ∙ ap (λ (x : ℕ). x % m) (let q : a % m * b + m * (a / m * b) ≡ (m * (a / m) + a % m) * b = omega arith in q ∙ ap (λ (x : ℕ). x * b) (div-add-mod a m))

pub mul-mod-mod : (a b m : ℕ) → a * (b % m) % m ≡ a * b % m
mul-mod-mod a b m = ap (λ (x : ℕ). x % m) (*-comm a (b % m)) ∙ mod-mul-mod b a m ∙ ap (λ (x : ℕ). x % m) (*-comm b a)

module _ (M : ℕ) (h : 0 < M) where
  abbrev pub Word : Type 0
  Word = (n : ℕ) × (n < M)

  unfoldable pub word : ℕ → Word
  word n = (n % M, mod-lt n h)

  pub word_eq : {u v : Word} → u.0 ≡ v.0 → u ≡ v
  word_eq {u} {v} q = Σ_prop_path (λ (k : ℕ). le_prop {n = suc k} {m = M}) q

  unfoldable pub word_ring : CommRing Word
  unfolding word
  word_ring = record {
    is_set = Σ_set (hedberg ℕ_discrete) (λ k. prop→set (le_prop {n = suc k} {m = M}));
    𝟘 = word 0;
    𝟙 = word 1;
    ◌⊕◌ = λ u v. word (u.0 + v.0);
    ◌⊗◌ = λ u v. word (u.0 * v.0);
    ⊖◌ = λ u. word (M - u.0);
    add_assoc = λ a b c. word_eq (rw (mod-add-mod, add-mod-mod, +_assoc));
    add_comm = λ a b. word_eq (ap (λ (x : ℕ). x % M) (+_comm a.0 b.0));
    add-zero = λ a. word_eq (add-mod-mod a.0 0 M ∙ rw (+-zero) (mod-eq_of_lt a.1));
    add-neg = λ a. word_eq (add-mod-mod a.0 (M - a.0) M ∙ ap (λ (x : ℕ). x % M) (let q : a.0 + (M - a.0) ≡ M = omega (arith, a.1) in q) ∙ mod_self M ∙ sym (zero-mod M));
    mul_assoc = λ a b c. word_eq (mod-mul-mod (a.0 * b.0) c.0 M ∙ ap (λ (x : ℕ). x % M) (*-assoc a.0 b.0 c.0) ∙ sym (mul-mod-mod a.0 (b.0 * c.0) M));
    mul_comm = λ a b. word_eq (ap (λ (x : ℕ). x % M) (*-comm a.0 b.0));
    mul-one = λ a. word_eq (mul-mod-mod a.0 1 M ∙ ap (λ (x : ℕ). x % M) (let q : a.0 * 1 ≡ a.0 = omega arith in q) ∙ mod-eq_of_lt a.1);
    mul-add = λ a b c. word_eq (mul-mod-mod a.0 (b.0 + c.0) M ∙ ap (λ (x : ℕ). x % M) (*-+ a.0 b.0 c.0) ∙ add-mod (a.0 * b.0) (a.0 * c.0) M);
  }

  pub word_fst : (n : ℕ) → (word n).0 ≡ n % M
  unfolding word
  word_fst n = refl

  pub word-zero : word_ring.𝟘 ≡ word 0
  unfolding word_ring
  word-zero = refl

  pub word-one : word_ring.𝟙 ≡ word 1
  unfolding word_ring
  word-one = refl

  pub word_val : (u : Word) → word u.0 ≡ u
  unfolding word word_ring
  word_val u = word_eq (mod-eq_of_lt u.1)

  pub word-add : (a b : ℕ) → word (a + b) ≡ word_ring.◌⊕◌ (word a) (word b)
  unfolding word word_ring
  word-add a b = word_eq (add-mod a b M)

  pub word-mul : (a b : ℕ) → word (a * b) ≡ word_ring.◌⊗◌ (word a) (word b)
  unfolding word word_ring
  word-mul a b = word_eq (sym (mod-mul-mod a (b % M) M ∙ mul-mod-mod a b M))

  pub word_mod : (a : ℕ) → word (a % M) ≡ word a
  unfolding word word_ring
  word_mod a = word_eq (mod-mod a M)

  pub word_whole : word M ≡ word_ring.𝟘
  unfolding word word_ring
  word_whole = word_eq (mod_self M ∙ sym (zero-mod M))

  pub word-neg : (a : ℕ) → a ≤ M → word (M - a) ≡ word_ring.⊖◌ (word a)
  word-neg a l = neg_unique word_ring (word a) (word (M - a))
      (sym (word-add a (M - a)) ∙ ap word (let q : a + (M - a) ≡ M = omega arith in q) ∙ word_whole)

  -- the complement
  pub word_comp : (a : ℕ) → a < M → word (M - 1 - a) ≡ word_ring.◌⊕◌ (word_ring.⊖◌ (word a)) (word_ring.⊖◌ (word 1))
  word_comp a l =
      neg_unique word_ring (word (a + 1)) (word (M - 1 - a))
      (sym (word-add (a + 1) (M - 1 - a)) ∙ ap word (let q : a + 1 + (M - 1 - a) ≡ M = omega arith in q) ∙ word_whole)
      ∙ ap word_ring.⊖◌ (word-add a 1) ∙ neg_sum word_ring (word a) (word 1)

  pub word_sum : (n : ℕ) (f : ℕ → ℕ) → word (sum_to n f) ≡ sum word_ring n (λ i. word (f i))
  unfolding sum sum_to word word_ring
  word_sum zero f = refl
  word_sum (suc n) f = word-add (sum_to n f) (f n) ∙ ap (λ (x : Word). word_ring.◌⊕◌ x (word (f n))) (word_sum n f)
