-- A gate read backwards is followed by the one before it: what a wire stands for, and how many of our gates there are, before that gate.
-- By cases on whether the gate sets the wire and is EQW.
-- Assumes nothing.
use mathlib.Core.Path.{◌≡◌, sym, ap, ◌∙◌}
use mathlib.Core.Bool.{Bool, true, false, cond, ◌||◌, false≢true}
use mathlib.Core.List.{List}
use Prim.Native.Nat.{ℕ, suc, ◌+◌, ◌-◌, ◌≤◌, ◌<◌}
use native.Mathlib.Omega.{arith}
use native.Mathlib.Decide.{ℕ_discrete}
use borrow.Author.Tests.{eq-eqb, ne_eqb}
use lib.Dec.{eqb}
use Rattle.tokens.specs.declared.Behind.{Behind}
use Rattle.tokens.specs.declared.Token.{Token}
use Rattle.tokens.specs.Tokens.{token_at, name_token_at, xor_name, and_name, eqw_name}
use Rattle.tokens.specs.Back.{back_of}
use Rattle.bristol_form.specs.Says.{gates, inputs, gate_at, made}
use Rattle.bristol_form.proofs.Laws.{made_grows}
use Rattle.bristol.specs.declared.BehindLine.{BehindLine}
use Rattle.bristol.specs.Import.{ours_to}
use Rattle.bristol.specs.Private.{Taken, behind_of}
use Rattle.bristol.proofs.TextGates.{named, made_eqw, made_own}
use Rattle.bristol.proofs.OurWires.{ours_other, ours_eqw, ours_own}
use Rattle.bristol.proofs.Behind.{Goes, goes}

-- A gate read backwards, token by token.
module _ (text : List ℕ) (end : ℕ) {n c a r k : Behind} {name set last : Token} {first : ℕ} where
  pub line_made : n ≡ back_of text end → c ≡ back_of text n.before → a ≡ back_of text c.before
      → name ≡ name_token_at text n.start → set ≡ token_at text c.start → last ≡ token_at text a.start
      → first ≡ cond (eqb name.number xor_name || eqb name.number and_name) (back_of text a.before).before a.before
      → r ≡ back_of text first → k ≡ back_of text r.before
      → ◌≡◌ {A = BehindLine} (record { name = name.number; result = set.number; last = last.number; at = k.before }) (behind_of text end)
  unfolding behind_of token_at name_token_at
  line_made hn hc ha hm hs hl hf hr hk = rw (hk, hr, hf, hl, hs, hm, ha, hc, hn)

-- ---- one gate back

module _ (text : List ℕ) (j : ℕ) (g : BehindLine) (h : Goes text j g) where
  made_back : (count : ℕ) → count ≡ made text (suc j) → cond (eqb g.name eqw_name) count (count - 1) ≡ made text j
  made_back count e = go (ℕ_discrete (named text j) 5)
    where
      go : Dec (named text j ≡ eqw_name) → cond (eqb g.name eqw_name) count (count - 1) ≡ made text j
      go (yes n) = rw (eq-eqb g.name 5 (h.name_is ∙ n)) (e ∙ made_eqw text j n)
      go (no n) = let m = made_own text j n in rw (ne_eqb g.name 5 (λ q. n (sym h.name_is ∙ q))) (omega arith)

  own_back : (wire : ℕ) → cond (eqb g.name eqw_name) false (eqb g.result wire) ≡ true → ours_to text (suc j) wire ≡ inputs text + made text j
  own_back wire e = go (ℕ_discrete g.name 5) (ℕ_discrete g.result wire)
    where
      go : Dec (g.name ≡ eqw_name) → Dec (g.result ≡ wire) → ours_to text (suc j) wire ≡ inputs text + made text j
      go (yes n) d = absurd (false≢true (ap (λ (b : Bool). cond b false (eqb g.result wire)) (sym (eq-eqb g.name 5 n)) ∙ e))
      go (no n) (yes d) = ours_own text j wire (sym d ∙ h.result_is) (λ q. n (h.name_is ∙ q))
      go (no n) (no d) = absurd (false≢true (sym (ap (λ (b : Bool). cond b false (eqb g.result wire)) (ne_eqb g.name 5 n) ∙ ne_eqb g.result wire d) ∙ e))

  wire_back : (wire : ℕ) → cond (eqb g.name eqw_name) false (eqb g.result wire) ≡ false
      → ours_to text (suc j) wire ≡ ours_to text j (cond (eqb g.result wire) g.last wire)
  wire_back wire e = go (ℕ_discrete g.name 5) (ℕ_discrete g.result wire)
    where
      go : Dec (g.name ≡ eqw_name) → Dec (g.result ≡ wire) → ours_to text (suc j) wire ≡ ours_to text j (cond (eqb g.result wire) g.last wire)
      go n (no d) = rw (ne_eqb g.result wire d) (ours_other text j wire (λ q. d (h.result_is ∙ sym q)))
      go (yes n) (yes d) =
          let q : named text j ≡ eqw_name = sym h.name_is ∙ n in
          rw (eq-eqb g.result wire d) (ours_eqw text j wire (sym d ∙ h.result_is) q ∙ ap (ours_to text j) (sym (h.last_is q)))
      go (no n) (yes d) = absurd (false≢true (sym e ∙ ap (λ (b : Bool). cond b false (eqb g.result wire)) (ne_eqb g.name 5 n) ∙ eq-eqb g.result wire d))

-- ---- the same with the code's numbers: i gates are left, and the one before them is read

pub record Left (text : List ℕ) (j w wire count at i : ℕ) : Type 0 where
  pub few : i ≤ gates text
  pub count_is : count ≡ made text i
  pub at_is : at ≡ gate_at text i
  pub stands : ours_to text j w ≡ ours_to text i wire

module _ (text : List ℕ) (j w wire count at i : ℕ) (taken : Taken text) (s : Left text j w wire count at i) (some : 0 < i) {g : BehindLine} (hg : g ≡ behind_of text at) {less : ℕ}
    (hl : less ≡ cond (eqb g.name eqw_name) count (count - 1)) {mine : Bool} (hm : mine ≡ cond (eqb g.name eqw_name) false (eqb g.result wire)) where
  one_less : i ≡ suc (i - 1)
  one_less = omega arith

  back_goes : Goes text (i - 1) g
  back_goes = rw (hg, s.at_is ∙ ap (gate_at text) one_less) (goes text taken.form taken.limits (i - 1) (let f = s.few in omega arith))

  less_made : less ≡ made text (i - 1)
  less_made = hl ∙ made_back text (i - 1) g back_goes count (s.count_is ∙ ap (made text) one_less)

  -- it makes the wire
  pub left_own : mine ≡ true → inputs text + less ≡ ours_to text j w
  left_own t = sym (s.stands ∙ ap (λ (m : ℕ). ours_to text m wire) one_less ∙ own_back text (i - 1) g back_goes wire (sym hm ∙ t) ∙ ap (λ (m : ℕ). inputs text + m) (sym less_made))

  pub left_small : inputs text + less ≤ 1280
  left_small =
      let e = less_made in
      let f = s.few in
      let m = made_grows text (i - 1) (gates text) (omega arith) in
      let n = taken.limits.gates_most in
      let o = taken.limits.inputs_to in
      omega arith

  -- it makes none for it
  pub left_step : mine ≡ false → {next : ℕ} → next ≡ cond (eqb g.result wire) g.last wire → Left text j w next less g.at (i - 1)
  left_step t hn =
      record {
        few = let f = s.few in omega arith;
        count_is = less_made;
        at_is = back_goes.at_is;
        stands = s.stands ∙ ap (λ (m : ℕ). ours_to text m wire) one_less ∙ wire_back text (i - 1) g back_goes wire (sym hm ∙ t) ∙ ap (ours_to text (i - 1)) (sym hn);
      }

pub left_none : (text : List ℕ) (j w wire count at i : ℕ) → Left text j w wire count at i → i ≤ 0 → wire ≡ ours_to text j w
unfolding ours_to
left_none text j w wire count at i s h = sym (s.stands ∙ ap (λ (m : ℕ). ours_to text m wire) (let z : i ≡ 0 = omega arith in z))
