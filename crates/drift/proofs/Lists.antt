-- The lists of a circuit's drifts in whole numbers (specs/Circuit.antt) are those in words (specs/PrivateCircuit.antt): each element by `words_suffice`, a gate by cases on its
-- way, a run by induction on its gates. So what the words tell, whether all are inside and which is worst, holds of the whole numbers.
-- Assumes nothing.
use mathlib.Core.Path.{◌≡◌, refl, sym, ap, ap₂, subst, ◌∙◌}
use mathlib.Core.Bool.{Bool, true, false, cond}
use mathlib.Core.List.{List, [], ◌∷◌, ◌++◌, map, map-append}
use Prim.Native.Nat.{ℕ, zero, suc, ◌%◌, ◌<◌}
use lib.Dec.{ltb}
use lib.IntN.{ℤ, pos, nat_abs}
use lib.ListN.{get_or-map}
use Rattle.ring.specs.Word.{Q, Q_pos, at, neg}
use Rattle.ring.specs.Sums.{tab}
use Rattle.ring.specs.Centre.{H, centre, word_of}
use Rattle.ring.proofs.Tab.{tab_snoc}
use Rattle.params.specs.declared.Params.{Params}
use Rattle.tlwe.specs.Key.{binary}
use Rattle.gate_sums.specs.declared.Kind.TheVariants.{And, AndNy}
use Rattle.gate_sums.specs.Sum.{summed}
use Rattle.circuit.specs.Form.{inputs, gates, outputs, kind_at, operand_at, output_at}
use Rattle.ways.specs.declared.Way.{Way}
use Rattle.ways.specs.declared.Way.TheVariants.{Known, Negated, Gate, NegatedGate, Choice}
use Rattle.ways.specs.Ways.{Rotation, way_of, operand, rotations_of, rotation_sum}
use Rattle.ways.specs.Ciphers.{cipher_at}
use Rattle.encrypted_run.specs.Run.{ciphers_to}
use Rattle.drift.specs.Whole.{inside, fresh_drift, brought_in, gate_drift}
use Rattle.drift.specs.PrivateWords.{fresh_word, brought_word}
use Rattle.drift.specs.Circuit.{way_drift, way_brought, drift_at, gate_drift_on, gate_brought_on, fresh_to, drifts_to, brought_to, drifts_of, output_drifts_to, all_of, worse, worst_from, worst_of, all_inside}
use Rattle.drift.specs.PrivateCircuit.{way_word, way_brought_words, gate_word_on, gate_brought_words, fresh_words, drift_words_to, brought_words_to, all_words, output_words, worst_words}
use Rattle.drift.proofs.Residues.{word_below}
use Rattle.drift.proofs.Suffice.{Reckoned, reckoned, centred_back, word_centred, fresh_word_lem, brought_word_lem, gate_word_lem, words_suffice}
use Rattle.ring.specs.Bit.{truth}
use Rattle.drift_size.specs.Size.{inside_word, worse_word}

-- ---- lists

-- The drifts xs are reckoned by the words ns, place by place.
pub record Reckons (xs : List ℤ) (ns : List ℕ) : Type 0 where
  pub words_are : map word_of xs ≡ ns
  pub drifts_are : xs ≡ map centre ns

none_reckoned : Reckons [] []
none_reckoned = record { words_are = refl; drifts_are = refl }

one_reckoned : {x : ℤ} {n : ℕ} → Reckoned x n → Reckons (x ∷ []) (n ∷ [])
one_reckoned h = record { words_are = ap (λ (n : ℕ). n ∷ []) h.word_is; drifts_are = ap (λ (x : ℤ). x ∷ []) h.drift_is }

joined_reckoned : {xs ys : List ℤ} {ns ms : List ℕ} → Reckons xs ns → Reckons ys ms → Reckons (xs ++ ys) (ns ++ ms)
joined_reckoned {xs} {ys} {ns} {ms} h k = record {
  words_are = map-append word_of xs ys ∙ ap₂ (λ (a b : List ℕ). a ++ b) h.words_are k.words_are;
  drifts_are = ap₂ (λ (a b : List ℤ). a ++ b) h.drifts_are k.drifts_are ∙ sym (map-append centre ns ms);
}

-- what stands at a place, and past the end
pub word_at : {xs : List ℤ} {ns : List ℕ} → Reckons xs ns → (w : ℕ) → word_of (drift_at xs w) ≡ at ns w
unfolding Q
word_at {xs} {ns} h w = sym (get_or-map word_of xs w (pos 0)) ∙ ap (λ (l : List ℕ). at l w) h.words_are

centre-at : (ns : List ℕ) (w : ℕ) → drift_at (map centre ns) w ≡ centre (at ns w)
unfolding centre H
centre-at ns w = get_or-map centre ns w 0

pub drift_at_lem : {xs : List ℤ} {ns : List ℕ} → Reckons xs ns → (w : ℕ) → drift_at xs w ≡ centre (at ns w)
drift_at_lem {xs} {ns} h w = ap (λ (l : List ℤ). drift_at l w) h.drifts_are ∙ centre-at ns w

pub at_below : {xs : List ℤ} {ns : List ℕ} → Reckons xs ns → (w : ℕ) → at ns w < Q
at_below {xs} {ns} h w = subst (λ (n : ℕ). n < Q) (word_at h w) (word_below (drift_at xs w))

-- any words below 2^32 reckon their centred numbers
words_back : (ns : List ℕ) → ((i : ℕ) → at ns i < Q) → map word_of (map centre ns) ≡ ns
words_back [] l = refl
words_back (n ∷ ns) l = ap₂ (λ (m : ℕ) (ms : List ℕ). m ∷ ms) (word_centred n (l 0)) (words_back ns (λ i. l (suc i)))

pub lent_reckoned : (ns : List ℕ) → ((i : ℕ) → at ns i < Q) → Reckons (map centre ns) ns
lent_reckoned ns l = record { words_are = words_back ns l; drifts_are = refl }

-- ---- all inside, and the worst

all_centred : (ns : List ℕ) → all_of (map centre ns) ≡ all_words ns
unfolding all_of all_words inside inside_word
all_centred [] = refl
all_centred (n ∷ ns) = ap (λ (b : Bool). cond (inside_word n) b false) (all_centred ns)

pub all_reckoned : {xs : List ℤ} {ns : List ℕ} → Reckons xs ns → all_of xs ≡ all_words ns
all_reckoned {xs} {ns} h = ap all_of h.drifts_are ∙ all_centred ns

worse_centred : (m n : ℕ) → worse (centre m) (centre n) ≡ centre (worse_word m n)
unfolding worse worse_word
worse_centred m n = go (ltb (nat_abs (centre m)) (nat_abs (centre n)))
  where
    go : (b : Bool) → cond b (centre n) (centre m) ≡ centre (cond b n m)
    go true = refl
    go false = refl

worst_centred : (w : ℕ) (ns : List ℕ) → worst_from (centre w) (map centre ns) ≡ centre (worst_words w ns)
unfolding worst_from worst_words
worst_centred w [] = refl
worst_centred w (n ∷ ns) = ap (λ (x : ℤ). worst_from x (map centre ns)) (worse_centred w n) ∙ worst_centred (worse_word w n) ns

worse_below : (m n : ℕ) → m < Q → n < Q → worse_word m n < Q
unfolding worse_word
worse_below m n k l = go (ltb (nat_abs (centre m)) (nat_abs (centre n)))
  where
    go : (b : Bool) → cond b n m < Q
    go true = l
    go false = k

worst_below : (w : ℕ) (ns : List ℕ) → w < Q → ((i : ℕ) → at ns i < Q) → worst_words w ns < Q
unfolding worst_words
worst_below w [] k l = k
worst_below w (n ∷ ns) k l = worst_below (worse_word w n) ns (worse_below w n k (l 0)) (λ i. l (suc i))

centre_none : centre 0 ≡ pos 0
unfolding centre H
centre_none = refl

pub worst_reckoned : {xs : List ℤ} {ns : List ℕ} → Reckons xs ns → word_of (worst_of xs) ≡ worst_words 0 ns
worst_reckoned {xs} {ns} h =
    ap word_of (ap₂ worst_from (sym centre_none) h.drifts_are ∙ worst_centred 0 ns)
    ∙ word_centred (worst_words 0 ns) (worst_below 0 ns Q_pos (at_below h))

-- ---- one gate

-- an operand's drift
operand_word : (x : ℕ) (da db dc : ℤ) → word_of (operand x da db dc) ≡ operand x (word_of da) (word_of db) (word_of dc)
operand_word zero da db dc = refl
operand_word (suc zero) da db dc = refl
operand_word (suc (suc zero)) da db dc = refl
operand_word (suc (suc (suc x))) da db dc = refl

constant_reckoned : (bit : Bool) → Reckoned (cond bit (pos 0) (pos 1)) (cond bit 0 1)
unfolding Q centre H
constant_reckoned true = reckoned (pos 0) 0 refl refl
constant_reckoned false = reckoned (pos 1) 1 refl refl

-- the drift of a way
module _ (p : Params) (key z : List ℕ) (binary_key : binary key ≡ true) (ksk bsk : List ℕ) where
  pub way_reckoned : (way : Way) (a b c : List ℕ) (da : ℤ) → Reckoned (way_drift p key z ksk bsk way a b c da) (way_word p key z ksk bsk way a b c (word_of da))
  unfolding way_drift way_word
  way_reckoned (Known bit) a b c da = constant_reckoned bit
  way_reckoned Negated a b c da = (words_suffice p key z binary_key ksk bsk).of_negated da
  way_reckoned (Gate kind) a b c da = (words_suffice p key z binary_key ksk bsk).of_gate (summed p kind a b)
  way_reckoned (NegatedGate kind) a b c da =
      subst (λ (n : ℕ). Reckoned (way_drift p key z ksk bsk (NegatedGate kind) a b c da) (neg n % Q))
      (gate_word_lem p key z binary_key ksk bsk (summed p kind a b))
      ((words_suffice p key z binary_key ksk bsk).of_negated (gate_drift p key z ksk bsk (summed p kind a b)))
  way_reckoned Choice a b c da = (words_suffice p key z binary_key ksk bsk).of_mux (summed p And a b) (summed p AndNy a c)

-- what is brought into its rotations
module _ (p : Params) (key a b c : List ℕ) (da db dc : ℤ) where
  abbrev brought : Rotation → ℤ
  brought r = brought_in p r.kind key (rotation_sum p a b c r) (operand r.x da db dc) (operand r.y da db dc)

  abbrev brought_as : Rotation → ℕ
  brought_as r =
      brought_word p r.kind key (rotation_sum p a b c r) (operand r.x (word_of da) (word_of db) (word_of dc)) (operand r.y (word_of da) (word_of db) (word_of dc))

  rotation_reckoned : (r : Rotation) → Reckoned (brought r) (brought_as r)
  unfolding brought_in
  rotation_reckoned r =
      let x = operand r.x da db dc in
      let y = operand r.y da db dc in
      reckoned _ _ (centred_back _)
      (brought_word_lem p r.kind key (rotation_sum p a b c r) x y
      ∙ ap₂ (brought_word p r.kind key (rotation_sum p a b c r)) (operand_word r.x da db dc) (operand_word r.y da db dc))

  rotations_reckoned : (rs : List Rotation) → Reckons (map brought rs) (map brought_as rs)
  rotations_reckoned [] = none_reckoned
  rotations_reckoned (r ∷ rs) = joined_reckoned (one_reckoned (rotation_reckoned r)) (rotations_reckoned rs)

  pub way_brought_reckoned : (way : Way) → Reckons (way_brought p key way a b c da db dc) (way_brought_words p key way a b c (word_of da) (word_of db) (word_of dc))
  unfolding way_brought way_brought_words
  way_brought_reckoned way = rotations_reckoned (rotations_of way)

-- gate g, the drifts xs of the wires before it being reckoned by ns
module _ (p : Params) (key bs ws : List ℕ) {xs : List ℤ} {ns : List ℕ} (h : Reckons xs ns) (g : ℕ) where
  gate_drift_reckoned : (z : List ℕ) → binary key ≡ true → (ksk bsk : List ℕ) → Reckoned (gate_drift_on p key z ksk bsk bs ws xs g) (gate_word_on p key z ksk bsk bs ws ns g)
  unfolding gate_drift_on gate_word_on
  gate_drift_reckoned z binary_key ksk bsk =
      let a = cipher_at p ws (operand_at bs g 0) in
      let b = cipher_at p ws (operand_at bs g 1) in
      let c = cipher_at p ws (operand_at bs g 2) in
      subst (λ (n : ℕ). Reckoned (gate_drift_on p key z ksk bsk bs ws xs g) (way_word p key z ksk bsk (way_of (kind_at bs g)) a b c n))
      (word_at h (operand_at bs g 0)) (way_reckoned p key z binary_key ksk bsk (way_of (kind_at bs g)) a b c (drift_at xs (operand_at bs g 0)))

  gate_list_reckoned : Reckons (gate_brought_on p key bs ws xs g) (gate_brought_words p key bs ws ns g)
  unfolding gate_brought_on gate_brought_words
  gate_list_reckoned =
      let a = cipher_at p ws (operand_at bs g 0) in
      let b = cipher_at p ws (operand_at bs g 1) in
      let c = cipher_at p ws (operand_at bs g 2) in
      rw (← word_at h (operand_at bs g 0), ← word_at h (operand_at bs g 1), ← word_at h (operand_at bs g 2))
      (way_brought_reckoned p key a b c (drift_at xs (operand_at bs g 0)) (drift_at xs (operand_at bs g 1)) (drift_at xs (operand_at bs g 2)) (way_of (kind_at bs g)))

-- the same where the drifts are lent as words
pub gate_reckoned : (p : Params) (key z : List ℕ) → binary key ≡ true → (ksk bsk bs ws ds : List ℕ) → ((i : ℕ) → at ds i < Q) → (g : ℕ)
    → word_of (gate_drift_on p key z ksk bsk bs ws (map centre ds) g) ≡ gate_word_on p key z ksk bsk bs ws ds g
gate_reckoned p key z binary_key ksk bsk bs ws ds l g = (gate_drift_reckoned p key bs ws (lent_reckoned ds l) g z binary_key ksk bsk).word_is

pub gate_brought_reckoned : (p : Params) (key bs ws ds : List ℕ) → ((i : ℕ) → at ds i < Q) → (g : ℕ)
    → Reckons (gate_brought_on p key bs ws (map centre ds) g) (gate_brought_words p key bs ws ds g)
gate_brought_reckoned p key bs ws ds l g = gate_list_reckoned p key bs ws (lent_reckoned ds l) g

-- ---- the run

fresh_reckoned : (p : Params) (key ins plain : List ℕ) (i : ℕ) → Reckons (fresh_to p key ins plain i) (fresh_words p key ins plain i)
unfolding fresh_to fresh_words tab fresh_drift
fresh_reckoned p key ins plain zero = none_reckoned
fresh_reckoned p key ins plain (suc i) =
    let v = truth (at plain i) in
    subst (λ (ns : List ℕ). Reckons (fresh_to p key ins plain (suc i)) ns)
    (sym (tab_snoc i (λ j. fresh_word p key (cipher_at p ins j) (truth (at plain j)))))
    (joined_reckoned (fresh_reckoned p key ins plain i) (one_reckoned (reckoned _ _ (centred_back _) (fresh_word_lem p key (cipher_at p ins i) v))))

-- the outputs' drifts
outputs_to : (bs : List ℕ) {xs : List ℤ} {ns : List ℕ} → Reckons xs ns → (o : ℕ) → Reckons (output_drifts_to bs xs o) (tab o (λ k. at ns (output_at bs k)))
unfolding output_drifts_to tab
outputs_to bs h zero = none_reckoned
outputs_to bs {xs} {ns} h (suc o) =
    let w = output_at bs o in
    subst (λ (ms : List ℕ). Reckons (output_drifts_to bs xs (suc o)) ms) (sym (tab_snoc o (λ k. at ns (output_at bs k))))
    (joined_reckoned (outputs_to bs h o) (one_reckoned (reckoned (drift_at xs w) (at ns w) (drift_at_lem h w ∙ ap centre (sym (word_at h w))) (word_at h w))))

pub outputs_reckoned : (bs : List ℕ) {xs : List ℤ} {ns : List ℕ} → Reckons xs ns → Reckons (output_drifts_to bs xs (outputs bs)) (output_words bs ns)
unfolding output_words
outputs_reckoned bs h = outputs_to bs h (outputs bs)

module _ (p : Params) (key z : List ℕ) (binary_key : binary key ≡ true) (ksk bsk bs ins plain : List ℕ) where
  pub drifts_reckoned : (g : ℕ) → Reckons (drifts_to p key z ksk bsk bs ins plain g) (drift_words_to p key z ksk bsk bs ins plain g)
  unfolding drifts_to drift_words_to
  drifts_reckoned zero = fresh_reckoned p key ins plain (inputs bs)
  drifts_reckoned (suc g) =
      let h = drifts_reckoned g in
      joined_reckoned h (one_reckoned (gate_drift_reckoned p key bs (ciphers_to p ksk bsk bs ins g) h g z binary_key ksk bsk))

  pub brought_reckoned : (g : ℕ) → Reckons (brought_to p key z ksk bsk bs ins plain g) (brought_words_to p key z ksk bsk bs ins plain g)
  unfolding brought_to brought_words_to
  brought_reckoned zero = none_reckoned
  brought_reckoned (suc g) = joined_reckoned (brought_reckoned g) (gate_list_reckoned p key bs (ciphers_to p ksk bsk bs ins g) (drifts_reckoned g) g)

  pub drifts_words : map word_of (drifts_of p key z ksk bsk bs ins plain) ≡ drift_words_to p key z ksk bsk bs ins plain (gates bs)
  drifts_words = (drifts_reckoned (gates bs)).words_are

  pub inside_reckoned : all_inside p key z ksk bsk bs ins plain
      ≡ cond (all_words (brought_words_to p key z ksk bsk bs ins plain (gates bs)))
      (all_words (output_words bs (drift_words_to p key z ksk bsk bs ins plain (gates bs)))) false
  unfolding all_inside
  inside_reckoned =
      ap₂ (λ (b c : Bool). cond b c false) (all_reckoned (brought_reckoned (gates bs))) (all_reckoned (outputs_reckoned bs (drifts_reckoned (gates bs))))
