-- What the definitions of a text give whatever the text is: sums of sizes grow, a wire that is set stays set, as many wires are set as there are results and inputs.
-- Each by induction on the number of sizes, results or gates.
-- Assumes nothing.
use mathlib.Core.Path.{◌≡◌, refl, sym, ◌∙◌}
use mathlib.Core.Logic.{⊎_elim}
use mathlib.Core.Bool.{Bool, true, false, false≢true, cond}
use mathlib.Core.List.{List}
use Prim.Native.Nat.{ℕ, zero, suc, ◌+◌, ◌-◌, ◌≤◌, ◌<◌}
use native.Mathlib.Omega.{arith}
use borrow.Author.Tests.{ltb-true, eqb-true}
use lib.Dec.{eqb}
use Rattle.ring.proofs.SumLaws.{sum_split}
use Rattle.circuit.proofs.Accept.{lt_or_ge}
use Rattle.tokens.specs.Tokens.{number_at, eqw_name}
use Rattle.bristol_form.specs.Says.{sizes_to, inputs, gate_at, result_count, gate_name, among, set_by, is_set, set_count, made}
use Rattle.bristol_form.proofs.AcceptTests.{one_true}

-- what holds of i, and of each number after one of which it holds, holds from i on
from_on : (P : ℕ → Type 0) (i : ℕ) → P i → ((k : ℕ) → i ≤ k → P k → P (suc k)) → (j : ℕ) → i ≤ j → P j
from_on P i start step zero h = let e : i ≡ 0 = omega arith in rw e at start
from_on P i start step (suc j) h =
    ⊎_elim
    (λ (l : i < suc j). step j (omega arith) (from_on P i start step j (omega arith)))
    (λ (l : suc j ≤ i). let e : i ≡ suc j = omega arith in rw e at start)
    (lt_or_ge i (suc j))

module _ (text : List ℕ) where
  -- sizes sum up to more, the more there are
  pub sizes_grow : (p i n : ℕ) → i ≤ n → sizes_to text p i ≤ sizes_to text p n
  unfolding sizes_to
  sizes_grow p i n h =
      let s = sum_split i (n - i) (number_at text p) in
      let e : i + (n - i) ≡ n = omega arith in
      omega (arith, rw e at s)

  -- ---- wires that are set

  pub stays_set : (j w : ℕ) → is_set text j w ≡ true → is_set text (suc j) w ≡ true
  unfolding is_set
  stays_set j w e = rw e

  -- what is set before gate i is set before each later gate
  pub set_grows : (i j w : ℕ) → i ≤ j → is_set text i w ≡ true → is_set text j w ≡ true
  set_grows i j w h e = from_on (λ (k : ℕ). is_set text k w ≡ true) i e (λ k l s. stays_set k w s) j h

  -- what is not set before gate j was not set before an earlier gate
  pub unset_before : (i j w : ℕ) → i ≤ j → is_set text j w ≡ false → is_set text i w ≡ false
  unset_before i j w h e = go (is_set text i w) refl
    where
      go : (b : Bool) → is_set text i w ≡ b → is_set text i w ≡ false
      go false s = s
      go true s = absurd (false≢true (sym e ∙ set_grows i j w h s))

  -- a number that stands among some is one of them
  pub among_one : (p n w : ℕ) → among text p n w ≡ true → (y : ℕ) × (y < n) × (w ≡ number_at text p y)
  unfolding among
  among_one p zero w e = absurd (false≢true e)
  among_one p (suc n) w e =
      ⊎_elim
      (λ l. let r = among_one p n w l in (r.0, omega arith, r.2))
      (λ l. (n, omega arith, eqb-true w (number_at text p n) l))
      (one_true (among text p n w) (eqb w (number_at text p n)) e)

  -- ---- how many

  -- where a wire is set, some are
  pub some_set : (j w : ℕ) → is_set text j w ≡ true → 0 < set_count text j
  unfolding is_set set_count
  some_set zero w e = let h = ltb-true w (inputs text) e in omega arith
  some_set (suc j) w e =
      let p = gate_at text j in
      ⊎_elim
      (λ l. let h = some_set j w l in omega arith)
      (λ l. let r = among_one _ (result_count text p) w l in let h : r.0 < result_count text p = r.1 in omega arith)
      (one_true (is_set text j w) (set_by text p (result_count text p) w) e)

  -- gates of at least one result each leave a wire for each gate after them
  pub counts_leave : (g j : ℕ) → ((i : ℕ) → i < g → 1 ≤ result_count text (gate_at text i)) → j ≤ g → set_count text j + (g - j) ≤ set_count text g
  unfolding set_count
  counts_leave g j each h =
      from_on (λ (k : ℕ). k ≤ g → set_count text j + (k - j) ≤ set_count text k) j (λ l. omega arith) (λ k l s m. let a = s (omega arith) in let b = each k m in omega arith) g h (omega arith)

  -- a gate is made or it is EQW
  pub made_step : (j : ℕ) → (made text j ≤ made text (suc j)) × (made text (suc j) ≤ suc (made text j))
  unfolding made
  made_step j = go (eqb (gate_name text (gate_at text j)) eqw_name)
    where
      go : (b : Bool) → (made text j ≤ made text j + cond b 0 1) × (made text j + cond b 0 1 ≤ suc (made text j))
      go true = (omega arith, omega arith)
      go false = (omega arith, omega arith)

  pub made_to : (j : ℕ) → made text j ≤ j
  unfolding made
  made_to zero = omega arith
  made_to (suc j) = let a = made_to j in let b = (made_step j).1 in omega arith

  pub made_grows : (i j : ℕ) → i ≤ j → made text i ≤ made text j
  made_grows i j h = from_on (λ (k : ℕ). made text i ≤ made text k) i (omega arith) (λ k l s. let b = (made_step k).0 in omega arith) j h
