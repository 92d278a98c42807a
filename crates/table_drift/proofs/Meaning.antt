-- What a lookup means, over any key material: where what is brought in is inside, the turns bring message v's entry to the front, so the result's phase is f(v mod M) plus the drift that 01 reckons.
-- The gates' law of a rotation's front (drift/Sides.rotated-front, with drift/Round.near for the place) and the table's (tables/Entries.front-entry), one after the other. From there: the result
-- decrypts to the message, or the bit, that its word is, while its own drift is inside; and its drift as that message is the lookup's, so that the next lookup can go on from it (`chained`).
-- Assumes nothing.
use mathlib.Core.Path.{◌≡◌, refl, sym, ap, ◌∙◌}
use mathlib.Core.Bool.{Bool, true, cond}
use mathlib.Core.List.{List}
use Prim.Native.Nat.{ℕ, ◌+◌, ◌-◌, ◌*◌, ◌/◌, ◌%◌, ◌^◌, ◌≤◌, ◌<◌}
use native.Mathlib.Nat.{mod-lt, mod-add-mod}
use native.Mathlib.Decide.{ℕ_discrete}
use native.Mathlib.Omega.{arith}
use borrow.Author.Tests.{ltb-true}
use lib.Dec.{ltb, ltb→lt, nltb→le}
use lib.IntN.{ℤ, nat_abs}
use Rattle.ring.specs.Word.{Q, Q_pos, at, neg}
use Rattle.ring.specs.Centre.{H, centre, word_of}
use Rattle.ring.specs.Turn.{negating}
use Rattle.ring.specs.Phase.{phase_of}
use Rattle.ring.specs.Pair.{Pair}
use Rattle.ring.proofs.Tab.{at-tab}
use Rattle.ring.proofs.Value.{by_test}
use Rattle.params.specs.declared.Params.{Params}
use Rattle.params.specs.Ranges.{InRange}
use Rattle.params.specs.Sizes.{size}
use Rattle.params.proofs.Ranges.{size_from}
use Rattle.tlwe.specs.Key.{binary}
use Rattle.tlwe.specs.Plain.{modulus_number, bit_word, message_word}
use Rattle.tlwe.specs.Decrypt.{bit_of, message_of}
use Rattle.tlwe.proofs.Inverse.{inside_cases, bit_back, message_back}
use Rattle.rotation.specs.Amount.{step}
use Rattle.blind_rotation.specs.Drift.{turn_to}
use Rattle.tables.specs.Table.{is_table, table_word, table_pair, looked_up}
use Rattle.tables.proofs.Entries.{table_modulus, table_halves, front_entry, front_entry_lem}
use Rattle.drift.specs.Whole.{fresh_drift, rotated_drift}
use Rattle.drift.specs.PrivateWords.{rounding_word, rotated_word, fresh_word}
use Rattle.drift.specs.PrivateShort.{place_of, front_word}
use Rattle.drift.proofs.Phases.{together}
use Rattle.drift.proofs.Residues.{is_pos, is_add, is_minus, is_only, is_centred, is_phase, word_below}
use Rattle.drift.proofs.Parts.{is_rounding}
use Rattle.drift.proofs.Round.{source_below, near, half_turn}
use Rattle.drift.proofs.Short.{less}
use Rattle.drift.proofs.Sides.{rotated_front}
use Rattle.drift.proofs.Suffice.{centred_back, fresh_word_lem, rotated_word_lem}
use Rattle.table_drift.specs.Lookup.{message_drift, message_brought, lookup_drift, inside_margin}
use Rattle.table_drift.specs.Private.{front_at, brought_short, lookup_short, within_word}
use Rattle.table_drift.proofs.Margins.{half_steps, word_steps}

-- ---- words

-- a centred drift is inside as its word is
pub margin_words : (m : ℕ) (d : ℤ) → d ≡ centre (word_of d) → inside_margin m d ≡ within_word m (word_of d)
unfolding inside_margin within_word
margin_words m d e = ap (λ (x : ℤ). ltb (nat_abs x) (H / (2 * m))) e

pub brought_word : (p : Params) (key c : List ℕ) (v m : ℕ) → word_of (message_brought p key c v m) ≡ brought_short p key c v m
unfolding message_brought message_drift brought_short
brought_word p key c v m =
    is_only (is_centred (is_add (is_centred (is_minus (is_phase p.n key c) (is_pos (message_word v m)))) (is_rounding p key c)))
    ∙ sym (mod-add-mod (phase_of p.n key c + neg (message_word v m)) Q (rounding_word p key c))

own_word : (p : Params) (key c : List ℕ) (v m : ℕ) → word_of (message_drift p key c v m) ≡ (phase_of p.n key c + neg (message_word v m)) % Q
unfolding message_drift
own_word p key c v m = is_only (is_centred (is_minus (is_phase p.n key c) (is_pos (message_word v m))))

own_back : (p : Params) (key c : List ℕ) (v m : ℕ) → message_drift p key c v m ≡ centre (word_of (message_drift p key c v m))
unfolding message_drift
own_back p key c v m = centred_back _

pub brought_back : (p : Params) (key c : List ℕ) (v m : ℕ) → message_brought p key c v m ≡ centre (word_of (message_brought p key c v m))
unfolding message_brought
brought_back p key c v m = centred_back _

pub lookup_back : (p : Params) (key z ksk bsk : List ℕ) (m : ℕ) (f c : List ℕ) → lookup_drift p key z ksk bsk m f c ≡ centre (word_of (lookup_drift p key z ksk bsk m f c))
unfolding lookup_drift rotated_drift
lookup_back p key z ksk bsk m f c = centred_back _

fresh_is : (p : Params) (key c : List ℕ) (b : Bool) → word_of (fresh_drift p key c b) ≡ (phase_of p.n key c + neg (bit_word b)) % Q
unfolding fresh_word
fresh_is p key c b = fresh_word_lem p key c b

same_margin : {d e : ℤ} {n : ℕ} → d ≡ e → nat_abs d < n → nat_abs e < n
same_margin q l = rw (sym q) l

-- ---- the front

-- what the turns bring to the front, by their place
pub front_at_lem : (p : Params) (v : Pair) (key src : List ℕ) → front_word p v key src ≡ front_at p v (place_of p key src)
unfolding front_word negating front_at
front_at_lem p v key src = at-tab (size p) _ 0 (size_from p)

-- of a table's vector it is an entry, or the negative of one
table_front : (p : Params) (m : ℕ) (f : List ℕ) (S : ℕ) → S < size p + size p → front_at p (table_pair p m f) S ≡ front_entry (size p) m f S
unfolding front_at
table_front p m f S l =
    let N = size p in
    let w = table_word N m f in
    by_test (ltb S N) (λ (c : Bool). cond c (at (table_pair p m f).b S) (neg (at (table_pair p m f).b (S - N)) % Q) ≡ cond c (w S) (neg (w (S - N)) % Q))
    (λ t. at-tab N w S (ltb→lt S N t))
    (λ t. let u : N ≤ S = nltb→le S N t in ap (λ (x : ℕ). neg x % Q) (at-tab N w (S - N) (omega arith)))

pub place_below : (p : Params) (key src : List ℕ) → place_of p key src < size p + size p
place_below p key src = source_below (size p) (turn_to p key src p.n) 0 (size_from p)

-- ---- the theorem

module _ (p : Params) (r : InRange p) (key z : List ℕ) (binary_key : binary key ≡ true) (ksk bsk : List ℕ) (m : ℕ) (f : List ℕ) (fits : is_table (size p) m ≡ true) (c : List ℕ) (body : at c p.n < Q) where
  -- a phase of v's word plus d, and what rounding brings in, within the margin: v's entry comes to the front
  entry_in_front : (v d : ℕ) → phase_of p.n key c ≡ (message_word v m + d) % Q → within_word m ((d + rounding_word p key c) % Q) ≡ true
      → front_word p (table_pair p m f) key c % Q ≡ at f (v % m) % Q
  unfolding within_word
  entry_in_front v d e within =
      let N = size p in
      let S = place_of p key c in
      let B = (d + rounding_word p key c) % Q in
      let h = H / (2 * m) in
      let t = table_modulus N m fits in
      let lb : B < Q = mod-lt _ Q_pos in
      let at_steps : S * step p ≡ (v % m * (2 * h) + B) % Q = near p r key c body
      ∙ ap (λ (x : ℕ). (x + rounding_word p key c) % Q) e ∙ together (message_word v m) d (rounding_word p key c)
      ∙ ap (λ (x : ℕ). (x + B) % Q) (word_steps v m t) in
      ap (λ (x : ℕ). x % Q) (front_at_lem p (table_pair p m f) key c ∙ table_front p m f S (place_below p key c))
      ∙ front_entry_lem N (step p) m h (half_turn p r) (half_steps m t) (table_halves N m fits) f (v % m) S (mod-lt v (modulus_pos t)) B lb (inside_cases h B lb (ltb-true _ _ within)) at_steps
    where
      modulus_pos : modulus_number m ≡ 0 → 0 < m
      modulus_pos t = let q = half_steps m t in go (ℕ_discrete m 0) q
        where
          go : Dec (m ≡ 0) → H / (2 * m) * m ≡ 2 ^ 30 → 0 < m
          go (no n) q = omega arith
          go (yes y) q = absurd (let w : H / (2 * m) * m ≡ H / (2 * m) * 0 = ap (λ (x : ℕ). H / (2 * m) * x) y in let b : ⊥ = omega arith in b)

  -- so the result carries it, with the drift that 01 reckons, in words
  pub lookup_carries : (v d : ℕ) → phase_of p.n key c ≡ (message_word v m + d) % Q → within_word m ((d + rounding_word p key c) % Q) ≡ true
      → phase_of p.n key (looked_up p m f ksk bsk c) ≡ (at f (v % m) + rotated_word p key z ksk bsk (table_pair p m f) c) % Q
  unfolding looked_up
  lookup_carries v d e within =
      let w = rotated_word p key z ksk bsk (table_pair p m f) c in
      rotated_front p r key z binary_key ksk bsk (table_pair p m f) refl c
      ∙ sym (mod-add-mod (front_word p (table_pair p m f) key c) Q w) ∙ ap (λ (x : ℕ). (x + w) % Q) (entry_in_front v d e within) ∙ mod-add-mod (at f (v % m)) Q w

  -- the short way to the drift, whatever it is
  pub short_drift : word_of (lookup_drift p key z ksk bsk m f c) ≡ lookup_short p key ksk bsk m f c
  unfolding lookup_drift lookup_short looked_up rotated_word
  short_drift =
      rotated_word_lem p key z binary_key ksk bsk (table_pair p m f) c
      ∙ sym (less _ (front_word p (table_pair p m f) key c) (rotated_word p key z ksk bsk (table_pair p m f) c) (mod-lt _ Q_pos) (rotated_front p r key z binary_key ksk bsk (table_pair p m f) refl c))

  -- ---- in whole numbers

  own_phase : (v : ℕ) → phase_of p.n key c ≡ (message_word v m + (phase_of p.n key c + neg (message_word v m)) % Q) % Q
  unfolding phase_of neg Q
  own_phase v = omega arith

  brought_short_lem : (v : ℕ) → brought_short p key c v m ≡ ((phase_of p.n key c + neg (message_word v m)) % Q + rounding_word p key c) % Q
  unfolding brought_short
  brought_short_lem v = refl

  module _ (v : ℕ) (inside : inside_margin m (message_brought p key c v m) ≡ true) where
    -- the result's phase: f(v mod M) plus the lookup's drift
    pub carries : phase_of p.n key (looked_up p m f ksk bsk c) ≡ (at f (v % m) + word_of (lookup_drift p key z ksk bsk m f c)) % Q
    unfolding lookup_drift
    carries =
        lookup_carries v ((phase_of p.n key c + neg (message_word v m)) % Q) (own_phase v)
        (sym (ap (within_word m) (brought_word p key c v m ∙ brought_short_lem v)) ∙ sym (margin_words m (message_brought p key c v m) (brought_back p key c v m)) ∙ inside)
        ∙ ap (λ (x : ℕ). (at f (v % m) + x) % Q) (sym (rotated_word_lem p key z binary_key ksk bsk (table_pair p m f) c))

    drift_below : word_of (lookup_drift p key z ksk bsk m f c) < Q
    drift_below = word_below (lookup_drift p key z ksk bsk m f c)

    -- where f(v mod M) is the word of the message w of modulus M', the result decrypts to w while its drift is inside 2^31/(2M')
    pub decrypts : (results w : ℕ) → modulus_number results ≡ 0 → inside_margin results (lookup_drift p key z ksk bsk m f c) ≡ true → at f (v % m) ≡ message_word w results
        → message_of results (phase_of p.n key (looked_up p m f ksk bsk c)) ≡ w % results
    unfolding inside_margin
    decrypts results w t i e =
        ap (message_of results) (carries ∙ ap (λ (x : ℕ). (x + word_of (lookup_drift p key z ksk bsk m f c)) % Q) e)
        ∙ message_back w results (word_of (lookup_drift p key z ksk bsk m f c)) t drift_below
        (same_margin (lookup_back p key z ksk bsk m f c) (ltb-true _ _ i))

    -- where it is a bit's word, to the bit, while its drift is inside an eighth of a turn, the margin of modulus 2: a gate can go on from it
    pub decrypts_bit : (b : Bool) → inside_margin 2 (lookup_drift p key z ksk bsk m f c) ≡ true → at f (v % m) ≡ bit_word b → bit_of (phase_of p.n key (looked_up p m f ksk bsk c)) ≡ b
    unfolding inside_margin H
    decrypts_bit b i e =
        ap bit_of (carries ∙ ap (λ (x : ℕ). (x + word_of (lookup_drift p key z ksk bsk m f c)) % Q) e)
        ∙ bit_back b (word_of (lookup_drift p key z ksk bsk m f c)) drift_below (same_margin (lookup_back p key z ksk bsk m f c) (ltb-true _ _ i))

    -- tables can be chained: as the message w the result has the lookup's drift, which the next table's brought-in drift counts
    pub chained : (results w : ℕ) → at f (v % m) ≡ message_word w results → message_drift p key (looked_up p m f ksk bsk c) w results ≡ lookup_drift p key z ksk bsk m f c
    chained results w e =
        own_back p key (looked_up p m f ksk bsk c) w results
        ∙ ap centre (own_word p key (looked_up p m f ksk bsk c) w results
        ∙ less _ (message_word w results) (word_of (lookup_drift p key z ksk bsk m f c)) drift_below (carries ∙ ap (λ (x : ℕ). (x + word_of (lookup_drift p key z ksk bsk m f c)) % Q) e))
        ∙ sym (lookup_back p key z ksk bsk m f c)

    -- and a gate can go on from it: as the bit b the result has the lookup's drift, which the gate's brought-in drift counts
    pub chained_bit : (b : Bool) → at f (v % m) ≡ bit_word b → fresh_drift p key (looked_up p m f ksk bsk c) b ≡ lookup_drift p key z ksk bsk m f c
    unfolding fresh_drift
    chained_bit b e =
        centred_back _
        ∙ ap centre (fresh_is p key (looked_up p m f ksk bsk c) b
        ∙ less _ (bit_word b) (word_of (lookup_drift p key z ksk bsk m f c)) drift_below (carries ∙ ap (λ (x : ℕ). (x + word_of (lookup_drift p key z ksk bsk m f c)) % Q) e))
        ∙ sym (lookup_back p key z ksk bsk m f c)
