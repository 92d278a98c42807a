-- What a call tells and leaves, in the words with which the code reckons: each drift in whole numbers is settled by its word, the result's goes the short way, and where both are inside the theorem holds.
-- Assumes nothing.
use mathlib.Core.Path.{◌≡◌, refl, sym, ap, ap₂, subst, ◌∙◌}
use mathlib.Core.Bool.{Bool, true, false, cond}
use mathlib.Core.List.{List, [], ◌∷◌}
use Prim.Native.Nat.{ℕ, ◌+◌, ◌*◌, ◌/◌, ◌^◌, ◌%◌, ◌<◌, ◌≤◌}
use native.Mathlib.Omega.{arith}
use borrow.Author.Tests.{ltb-true, lt-ltb}
use lib.IntN.{ℤ, nat_abs}
use lib.ListN.{length, set}
use Rattle.ring.specs.Word.{Q, at, neg}
use Rattle.ring.specs.Centre.{H, word_of}
use Rattle.ring.specs.Phase.{phase_of}
use Rattle.params.specs.declared.Params.{Params}
use Rattle.params.specs.Ranges.{InRange}
use Rattle.params.specs.Sizes.{size}
use Rattle.tlwe.specs.Key.{binary}
use Rattle.tlwe.specs.Plain.{modulus_number, message_word}
use Rattle.tables.specs.Table.{is_table, table_pair, looked_up}
use Rattle.drift.specs.PrivateWords.{rounding_word}
use Rattle.drift.specs.PrivateShort.{place_of}
use Rattle.table_drift.specs.Lookup.{message_brought, lookup_drift, inside_margin, both_inside, Carries}
use Rattle.table_drift.specs.Private.{front_at, brought_short, lookup_short, within_word, both_within}
use Rattle.drift.proofs.Phases.{both}
use Rattle.table_drift.proofs.Margins.{margin_most}
use Rattle.table_drift.proofs.Meaning.{margin_words, brought_word, brought_back, lookup_back, front_at_lem, short_drift, carries, decrypts, decrypts_bit}

-- two words written one after the other into a slice of two
pub two_put : (d : List ℕ) (x y : ℕ) → length d ≡ 2 → set (set d 0 x) 1 y ≡ x ∷ y ∷ []
two_put [] x y e = absurd (let q : ⊥ = omega arith in q)
two_put (a ∷ []) x y e = absurd (let q : ⊥ = omega arith in q)
two_put (a ∷ b ∷ []) x y e = refl
two_put (a ∷ b ∷ c ∷ d) x y e = absurd (let q : ⊥ = omega arith in q)

-- what carries a word with a drift, under other names
pub carries_as : {p : Params} {key f : List ℕ} {m results v : ℕ} {out same : List ℕ} {drift equal : ℕ} → out ≡ same → drift ≡ equal → Carries p key m f results v same equal → Carries p key m f results v out drift
carries_as {p} {key} {f} {m} {results} {v} {out} {same} {drift} {equal} eo ed h =
    subst (λ (x : List ℕ). Carries p key m f results v x drift) (sym eo) (subst (λ (x : ℕ). Carries p key m f results v same x) (sym ed) h)

-- the code's two drifts
pub brought_made : (p : Params) (key c : List ℕ) (v m : ℕ) {phase word own rounding brought : ℕ} → phase ≡ phase_of p.n key c → word ≡ message_word v m → own ≡ (phase + neg word) % Q
    → rounding ≡ rounding_word p key c → brought ≡ (own + rounding) % Q → brought ≡ brought_short p key c v m
unfolding brought_short
brought_made p key c v m ep ew eo er eb = eb ∙ ap₂ (λ (x y : ℕ). (x + y) % Q) (eo ∙ ap₂ (λ (x y : ℕ). (x + neg y) % Q) ep ew) er

pub drift_made : (p : Params) (key ksk bsk : List ℕ) (m : ℕ) (f c : List ℕ) {phase place front drift : ℕ} → phase ≡ phase_of p.n key (looked_up p m f ksk bsk c) → place ≡ place_of p key c
    → front ≡ front_at p (table_pair p m f) place → drift ≡ (phase + neg front) % Q → drift ≡ lookup_short p key ksk bsk m f c
unfolding lookup_short
drift_made p key ksk bsk m f c ep el ef ed =
    ed ∙ ap₂ (λ (x y : ℕ). (x + neg y) % Q) ep (ef ∙ ap (front_at p (table_pair p m f)) el ∙ sym (front_at_lem p (table_pair p m f) key c))

-- no modulus has a wider margin than bits have
wider : (m : ℕ) (d : ℤ) → modulus_number m ≡ 0 → inside_margin m d ≡ true → inside_margin 2 d ≡ true
unfolding inside_margin H
wider m d t i =
    let l : nat_abs d < 2 ^ 31 / (2 * m) = ltb-true _ _ i in
    let b : 2 ^ 31 / (2 * m) ≤ 2 ^ 29 = margin_most m t in
    lt-ltb (nat_abs d) (2 ^ 29) (omega arith)

module _ (p : Params) (r : InRange p) (key z : List ℕ) (binary_key : binary key ≡ true) (ksk bsk : List ℕ) (m : ℕ) (f : List ℕ) (fits : is_table (size p) m ≡ true) (c : List ℕ) (body : at c p.n < Q) (v results : ℕ) where
  pub both_words : both_inside p key z ksk bsk m f results v c ≡ both_within m results (brought_short p key c v m) (lookup_short p key ksk bsk m f c)
  unfolding both_inside both_within
  both_words = ap₂ (λ (a b : Bool). cond a b false)
      (margin_words m (message_brought p key c v m) (brought_back p key c v m) ∙ ap (within_word m) (brought_word p key c v m))
      (margin_words results (lookup_drift p key z ksk bsk m f c) (lookup_back p key z ksk bsk m f c) ∙ ap (within_word results) (short_drift p r key z binary_key ksk bsk m f fits c body))

  pub drift_words : ◌≡◌ {A = List ℕ} (word_of (message_brought p key c v m) ∷ word_of (lookup_drift p key z ksk bsk m f c) ∷ []) (brought_short p key c v m ∷ lookup_short p key ksk bsk m f c ∷ [])
  drift_words = ap₂ (λ (x y : ℕ). x ∷ y ∷ []) (brought_word p key c v m) (short_drift p r key z binary_key ksk bsk m f fits c body)

  -- the theorem, of what is told
  pub inside_carries : modulus_number results ≡ 0 → both_inside p key z ksk bsk m f results v c ≡ true → Carries p key m f results v (looked_up p m f ksk bsk c) (word_of (lookup_drift p key z ksk bsk m f c))
  unfolding both_inside
  inside_carries t e =
      let i = both (inside_margin m (message_brought p key c v m)) (inside_margin results (lookup_drift p key z ksk bsk m f c)) e in
      record {
        word = carries p r key z binary_key ksk bsk m f fits c body v i.0;
        message = λ w q. decrypts p r key z binary_key ksk bsk m f fits c body v i.0 results w t i.1 q;
        bit = λ b q. decrypts_bit p r key z binary_key ksk bsk m f fits c body v i.0 b (wider results (lookup_drift p key z ksk bsk m f c) t i.1) q;
      }
