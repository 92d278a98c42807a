-- What callers use of a column: output i is what one call gives on pair i, and depends on that pair alone; a refusal and no pairs leave everything as it was; and two columns one after
-- another are the column of all their pairs. Each output is a part of the joined results, and each pair lies in the front of the pairs or behind it.
-- Assumes nothing.
use mathlib.Core.Path.{◌≡◌, refl, sym, ap, ap₂, ◌∙◌}
use mathlib.Core.Bool.{Bool, true, false, cond}
use mathlib.Core.List.{List, [], ◌∷◌, ◌++◌}
use Prim.Native.Nat.{ℕ, ◌+◌, ◌*◌, ◌≤◌, ◌<◌}
use native.Mathlib.Nat.{zero-mul}
use native.Mathlib.Omega.{arith}
use lib.Dec.{eqb}
use lib.ListN.{length, length-append}
use borrow.Author.Tests.{eqb-true}
use Rattle.ring.specs.Lists.{joined}
use Rattle.ring.proofs.Joins.{length-joined, joined-part, joined_alike, joined_split}
use Rattle.params.specs.declared.Params.{Params}
use Rattle.params.specs.Refusal.{if_done}
use Rattle.params.proofs.Answers.{when_done, when_refused}
use Rattle.tlwe.specs.Linear.{negative}
use Rattle.gate_sums.specs.declared.Kind.{Kind}
use Rattle.gates.specs.Gate.{gate_out}
use Rattle.gates.proofs.Checks.{gate_done}
use Rattle.circuit.specs.Form.{kind_at, operand_at}
use Rattle.ways.specs.declared.Way.TheVariants.{Gate, NegatedGate}
use Rattle.ways.specs.Ways.{way_of, ran}
use Rattle.ways.specs.Ciphers.{cipher_at}
use Rattle.ways.proofs.Made.{ran_gate, ran_negated_gate}
use Rattle.ways.proofs.Ciphers.{cipher_length, cipher_front, cipher_behind}
use Rattle.encrypted_run.specs.Run.{gate_cipher}
use Rattle.columns.specs.Refusals.{column_number}
use Rattle.columns.specs.Column.{pair_gate, pair_result, column_of, column_out}
use Rattle.columns.specs.Private.{ColumnGood}
use Rattle.columns.proofs.Checks.{column_good, column_done}
use Rattle.columns.proofs.Pairs.{needs_two, gate_name, way_named, third_unread, pair_within, result_length}

-- ---- the outputs of a column

module _ (p : Params) (ksk bsk : List ℕ) (kind : ℕ) where
  pub column_length : (count : ℕ) (pairs : List ℕ) → length (column_of p ksk bsk kind count pairs) ≡ count * (p.n + 1)
  unfolding column_of
  column_length count pairs = length-joined (p.n + 1) (λ i. pair_result p ksk bsk kind pairs i) count (λ i h. result_length p ksk bsk kind pairs i)

  -- output i is the result of pair i
  pub output_is : (count : ℕ) (pairs : List ℕ) (i : ℕ) → i < count → cipher_at p (column_of p ksk bsk kind count pairs) i ≡ pair_result p ksk bsk kind pairs i
  unfolding column_of cipher_at
  output_is count pairs i h = joined-part (p.n + 1) (λ r. pair_result p ksk bsk kind pairs r) count (λ r l. result_length p ksk bsk kind pairs r) i h

  -- columns that agree on pair i agree on output i, whatever the other pairs hold and however many there are
  pub only_its_pair : (count count' : ℕ) (pairs pairs' : List ℕ) (i : ℕ) → i < count → i < count'
      → cipher_at p pairs (2 * i) ≡ cipher_at p pairs' (2 * i) → cipher_at p pairs (2 * i + 1) ≡ cipher_at p pairs' (2 * i + 1)
      → cipher_at p (column_of p ksk bsk kind count pairs) i ≡ cipher_at p (column_of p ksk bsk kind count' pairs') i
  unfolding pair_result
  only_its_pair count count' pairs pairs' i h h' a b = output_is count pairs i h ∙ alike ∙ sym (output_is count' pairs' i h')
    where
      alike : pair_result p ksk bsk kind pairs i ≡ pair_result p ksk bsk kind pairs' i
      alike = ap₂ (pair_gate p ksk bsk kind) a b

  -- the column of k + m pairs is the two columns one after another
  pub two_columns : (k m : ℕ) (xs ys : List ℕ) → length xs ≡ k * (2 * (p.n + 1)) → column_of p ksk bsk kind (k + m) (xs ++ ys) ≡ column_of p ksk bsk kind k xs ++ column_of p ksk bsk kind m ys
  unfolding column_of pair_result
  two_columns k m xs ys l =
      joined_split k m (λ i. pair_result p ksk bsk kind (xs ++ ys) i)
      ∙ ap₂ (λ (x y : List ℕ). x ++ y) (joined_alike k _ _ (λ i h. in_front i h)) (joined_alike m _ _ (λ i h. behind i))
    where
      in_front : (i : ℕ) → i < k → pair_result p ksk bsk kind (xs ++ ys) i ≡ pair_result p ksk bsk kind xs i
      in_front i h =
          ap₂ (pair_gate p ksk bsk kind) (cipher_front p xs ys (2 * i) (pair_within p k (2 * i) (length xs) (omega arith) l))
          (cipher_front p xs ys (2 * i + 1) (pair_within p k (2 * i + 1) (length xs) (omega arith) l))

      long : length xs ≡ 2 * k * (p.n + 1)
      long = omega (arith, l)

      behind : (i : ℕ) → pair_result p ksk bsk kind (xs ++ ys) (k + i) ≡ pair_result p ksk bsk kind ys i
      behind i =
          ap₂ (pair_gate p ksk bsk kind) (ap (cipher_at p (xs ++ ys)) (omega arith) ∙ cipher_behind p xs ys (2 * k) (2 * i) long)
          (ap (cipher_at p (xs ++ ys)) (omega arith) ∙ cipher_behind p xs ys (2 * k) (2 * i + 1) long)

  -- a gate of a circuit that has such a kind is the column's gate on its operands: the third is not looked at
  pub as_in_circuits : (bs ws : List ℕ) (g : ℕ) → kind_at bs g ≡ kind → 3 ≤ kind → kind ≤ 12
      → gate_cipher p ksk bsk bs ws g ≡ pair_gate p ksk bsk kind (cipher_at p ws (operand_at bs g 0)) (cipher_at p ws (operand_at bs g 1))
  unfolding gate_cipher pair_gate
  as_in_circuits bs ws g e a b = rw e (third_unread p ksk bsk (way_of kind) _ _ _ [] (needs_two kind a b))

-- ---- calls

-- a refused call leaves everything as it was
pub refused_kept : (p : Params) (kind count : ℕ) (pairs ksk bsk o : List ℕ) → (column_number p kind count (length pairs) (length ksk) (length bsk) (length o) ≡ 0 → ⊥) → column_out p kind count pairs ksk bsk o ≡ o
unfolding column_out
refused_kept p kind count pairs ksk bsk o h = when_refused _ _ _ h

-- and so does a call on no pairs, refused or not
pub no_pairs : (p : Params) (kind : ℕ) (pairs ksk bsk o : List ℕ) → column_out p kind 0 pairs ksk bsk o ≡ o
unfolding column_out column_of joined
no_pairs p kind pairs ksk bsk o = go (eqb number 0) refl
  where
    number : ℕ
    number = column_number p kind 0 (length pairs) (length ksk) (length bsk) (length o)

    empty : (l : List ℕ) → length l ≡ 0 → [] ≡ l
    empty [] e = refl
    empty (x ∷ xs) e = absurd (let f : ⊥ = omega (arith, e) in f)

    go : (b : Bool) → eqb number 0 ≡ b → if_done number [] o ≡ o
    go true e = rw e (empty o ((column_good p kind 0 _ _ _ _ (eqb-true _ _ e)).results ∙ zero-mul (p.n + 1)))
    go false e = rw e

module _ (p : Params) (kind : ℕ) (ksk bsk : List ℕ) where
  -- a call that is not refused
  pub column_written : (count : ℕ) (pairs o : List ℕ) → ColumnGood p kind count (length pairs) (length ksk) (length bsk) (length o) → column_out p kind count pairs ksk bsk o ≡ column_of p ksk bsk kind count pairs
  unfolding column_out
  column_written count pairs o g = when_done _ _ _ (column_done p kind count _ _ _ _ g)

  -- two calls, the second on what stands behind the first's in both slices, are the one call on all: none is refused, and the words are the same
  module _ (k m : ℕ) (xs ys o q : List ℕ) (g : ColumnGood p kind k (length xs) (length ksk) (length bsk) (length o)) (h : ColumnGood p kind m (length ys) (length ksk) (length bsk) (length q)) where
    pub both_good : ColumnGood p kind (k + m) (length (xs ++ ys)) (length ksk) (length bsk) (length (o ++ q))
    both_good =
        let t = g.lent in
        let a = t.pairs in
        let b = h.lent.pairs in
        let c = g.results in
        let d = h.results in
        record {
          good = g.good;
          lent = record { pairs = length-append xs ys ∙ omega (arith, a, b); switching = t.switching; bootstrapping = t.bootstrapping; least = t.least; most = t.most };
          results = length-append o q ∙ omega (arith, c, d);
        }

    pub two_calls : column_out p kind (k + m) (xs ++ ys) ksk bsk (o ++ q) ≡ column_out p kind k xs ksk bsk o ++ column_out p kind m ys ksk bsk q
    two_calls =
        column_written (k + m) (xs ++ ys) (o ++ q) both_good ∙ two_columns p ksk bsk kind k m xs ys g.lent.pairs
        ∙ sym (ap₂ (λ (x y : List ℕ). x ++ y) (column_written k xs o g) (column_written m ys q h))

  -- output i of a call, beside the single call on pair i into any ciphertext c
  module _ (count : ℕ) (pairs o c : List ℕ) (g : ColumnGood p kind count (length pairs) (length ksk) (length bsk) (length o)) (lc : length c ≡ p.n + 1) (i : ℕ) (h : i < count) where
    -- the two ciphertexts of the pair
    abbrev first : List ℕ
    first = cipher_at p pairs (2 * i)

    abbrev second : List ℕ
    second = cipher_at p pairs (2 * i + 1)

    -- what the two-input gate of that name leaves
    single : (name : Kind) → gate_out p name first second ksk bsk c ≡ ran p ksk bsk (Gate name) first second []
    single name =
        let t = g.lent in
        when_done _ _ _
        (gate_done p (length first) (length second) (length ksk) (length bsk) (length c)
        (record {
          good = g.good;
          first = cipher_length p pairs (2 * i) (pair_within p count (2 * i) (length pairs) (omega arith) t.pairs);
          second = cipher_length p pairs (2 * i + 1) (pair_within p count (2 * i + 1) (length pairs) (omega arith) t.pairs);
          switching = t.switching;
          bootstrapping = t.bootstrapping;
          result = lc;
        }))
        ∙ sym (ran_gate p ksk bsk first second [] name)

    made : cipher_at p (column_out p kind count pairs ksk bsk o) i ≡ ran p ksk bsk (way_of kind) first second []
    unfolding pair_result pair_gate
    made = ap (λ (x : List ℕ). cipher_at p x i) (column_written count pairs o g) ∙ output_is p ksk bsk kind count pairs i h

    -- where the kind's way is a gate, it is that gate
    pub as_one_gate : {name : Kind} → way_of kind ≡ Gate name → cipher_at p (column_out p kind count pairs ksk bsk o) i ≡ gate_out p name first second ksk bsk c
    as_one_gate {name} e = made ∙ ap (λ w. ran p ksk bsk w first second []) e ∙ sym (single name)

    -- where it is a gate negated, that gate's words are negated
    pub as_negated_gate : {name : Kind} → way_of kind ≡ NegatedGate name → cipher_at p (column_out p kind count pairs ksk bsk o) i ≡ negative (p.n + 1) (gate_out p name first second ksk bsk c)
    as_negated_gate {name} e =
        made ∙ ap (λ w. ran p ksk bsk w first second []) e ∙ ran_negated_gate p ksk bsk first second [] name
        ∙ ap (negative (p.n + 1)) (sym (single name ∙ ran_gate p ksk bsk first second [] name))

    -- so of every kind it is the gate of its name, and of kind 8 xor's, negated
    pub as_single_call : cipher_at p (column_out p kind count pairs ksk bsk o) i
        ≡ cond (eqb kind 8) (negative (p.n + 1) (gate_out p (gate_name kind) first second ksk bsk c)) (gate_out p (gate_name kind) first second ksk bsk c)
    as_single_call = go (eqb kind 8) (way_named kind g.lent.least g.lent.most)
      where
        go : (b : Bool) → way_of kind ≡ cond b (NegatedGate (gate_name kind)) (Gate (gate_name kind))
            → cipher_at p (column_out p kind count pairs ksk bsk o) i ≡ cond b (negative (p.n + 1) (gate_out p (gate_name kind) first second ksk bsk c)) (gate_out p (gate_name kind) first second ksk bsk c)
        go true e = as_negated_gate e
        go false e = as_one_gate e
