-- What the loop over a text's gates carries from gate to gate: the wires set, the gates of our own, the first limit passed, that no gate was refused.
-- Assumes nothing.
use mathlib.Core.Path.{◌≡◌, refl, sym, ap, ◌∙◌}
use mathlib.Core.Bool.{Bool, true, false, cond, not, ◌&&◌, ◌||◌, or-false}
use mathlib.Core.List.{List, [], ◌∷◌}
use Prim.Native.Nat.{ℕ, zero, suc, ◌+◌, ◌*◌, ◌-◌, ◌/◌, ◌%◌, ◌^◌, ◌≤◌, ◌<◌}
use native.Mathlib.Decide.{ℕ_discrete}
use native.Mathlib.Nat.{zero-div}
use native.Mathlib.Numerals.{add-one}
use native.Mathlib.Omega.{arith}
use borrow.Author.Tests.{ne_eqb}
use lib.Dec.{ltb, eqb}
use lib.ListN.{length, replicate, length-replicate}
use Rattle.ring.specs.Word.{at}
use Rattle.params.specs.Refusal.{Answer}
use Rattle.params.specs.Refusal.{answer, Outcome, given, outcome, unless, done}
use Rattle.params.specs.declared.refusal.Refusal.{Refusal}
use Rattle.params.specs.declared.refusal.Refusal.TheVariants.{Limit}
use Rattle.std.specs.Prelude.{Ok, Err}
use Rattle.std.specs.Result.{result_and}
use Rattle.circuit.specs.Form.{or_else, asks, first_at, first}
use Rattle.circuit.proofs.Accept.{or_done}
use Rattle.circuit.proofs.Steps.{first_start, first_stop, first_step}
use Rattle.tokens.specs.Tokens.{place_at, eqw_name, mand_name}
use Rattle.bristol_form.specs.declared.GateRead.{GateRead}
use Rattle.bristol_form.specs.Says.{wires, inputs, body, gate_at, result_count, name_place, gate_name, among, is_set, set_count, made}
use Rattle.bristol_form.specs.Form.{gate_answer, gate_limit}
use Rattle.bristol_form.specs.Private.{held, held_bit, Holds, named_of, gate_of}
use Rattle.bristol_form.proofs.Tells.{refused_by, passed}
use Rattle.bristol_form.proofs.Lookup.{gate_next}
use Rattle.bristol_form.proofs.AcceptGate.{gate_good}

-- ---- one answer more in a row

or_refused : (a b : Answer) → (a.number ≡ 0 → ⊥) → or_else a b ≡ a
or_refused a b d = rw (ne_eqb a.number 0 d)

or_nothing : (a : Answer) → (a.number ≡ 0 → a ≡ answer 0) → or_else a (answer 0) ≡ a
or_nothing a h = go (ℕ_discrete a.number 0)
  where
    go : Dec (a.number ≡ 0) → or_else a (answer 0) ≡ a
    go (yes e) = or_done a (answer 0) e ∙ sym (h e)
    go (no d) = or_refused a (answer 0) d

or_assoc : (a b c : Answer) → or_else a (or_else b c) ≡ or_else (or_else a b) c
or_assoc a b c = go (ℕ_discrete a.number 0)
  where
    go : Dec (a.number ≡ 0) → or_else a (or_else b c) ≡ or_else (or_else a b) c
    go (yes e) = or_done a (or_else b c) e ∙ ap (λ (x : Answer). or_else x c) (sym (or_done a b e))
    go (no d) = or_refused a (or_else b c) d ∙ sym (or_refused a c d) ∙ ap (λ (x : Answer). or_else x c) (sym (or_refused a b d))

module _ (f : ℕ → Answer) (none : (k : ℕ) → (f k).number ≡ 0 → f k ≡ answer 0) where
  more_by : (i n k : ℕ) → k ≡ i + n → first f i (suc n) ≡ or_else (first f i n) (f k)
  unfolding first
  more_by i zero k e = or_nothing (f i) (none i) ∙ ap f (let z : i ≡ k = omega arith in z)
  more_by i (suc n) k e = ap (or_else (f i)) (more_by (suc i) n k (omega arith)) ∙ or_assoc (f i) (first f (suc i) n) (f k)

  first_more : (n : ℕ) → first f 0 (n + 1) ≡ or_else (first f 0 n) (f n)
  first_more n = ap (first f 0) (add-one n) ∙ more_by 0 n n (omega arith)

-- ---- from gate to gate

-- a limit test, handed back
limit_by : (test : Bool) (p : ℕ) → outcome (first_at (asks test 12 p ∷ [])) ≡ unless test (Limit p) done
limit_by true p = refl
limit_by false p = refl

limit_none : (test : Bool) (p : ℕ) → (first_at (asks test 12 p ∷ [])).number ≡ 0 → first_at (asks test 12 p ∷ []) ≡ answer 0
limit_none true p e = refl
limit_none false p e = absurd (let q : ⊥ = omega arith in q)

-- the first of two refusals
outcome_or : (a b : Answer) → outcome (or_else a b) ≡ result_and (outcome a) (outcome b)
outcome_or a b = go (eqb a.number 0) refl
  where
    go : (t : Bool) → eqb a.number 0 ≡ t → outcome (or_else a b) ≡ result_and (outcome a) (outcome b)
    go true h = rw h
    go false h = rw (h, h)

-- the limit test of gate j, and its name's place
abbrev test : List ℕ → ℕ → Bool
test text j = not (eqb (gate_name text (gate_at text j)) mand_name) && (eqb (gate_name text (gate_at text j)) eqw_name || ltb (made text j) 1024)

abbrev place : List ℕ → ℕ → ℕ
place text j = place_at text (name_place text (gate_at text j)) 0

module _ (text : List ℕ) (j : ℕ) where
  limits : (k : ℕ) → (gate_limit text k).number ≡ 0 → gate_limit text k ≡ answer 0
  unfolding gate_limit
  limits k = limit_none (test text k) (place text k)

  limit_next : {l m : Outcome} {name o named : ℕ} → l ≡ outcome (first (gate_limit text) 0 j) → name ≡ gate_name text (gate_at text j) → o ≡ made text j → named ≡ place text j
      → m ≡ result_and l (unless (not (eqb name mand_name) && (eqb name eqw_name || ltb o 1024)) (Limit named) done) → m ≡ outcome (first (gate_limit text) 0 (j + 1))
  unfolding gate_limit
  limit_next t a b c e =
      rw (e, t, a, b, c)
      (sym (ap (λ (x : Answer). outcome x) (first_more (gate_limit text) limits j) ∙ outcome_or (first (gate_limit text) 0 j) (gate_limit text j)
      ∙ ap (λ (x : Outcome). result_and (outcome (first (gate_limit text) 0 j)) x) (limit_by (test text j) (place text j))))

  made_next : {m w name : ℕ} → m ≡ made text j → name ≡ gate_name text (gate_at text j) → w ≡ cond (eqb name eqw_name) 0 1 → m + w ≡ made text (j + 1)
  unfolding made
  made_next a b e = rw (a, e, b, add-one j)

  set_next : {s r : ℕ} → s ≡ set_count text j → r ≡ result_count text (gate_at text j) → s + r ≡ set_count text (j + 1)
  unfolding set_count
  set_next a b = rw (a, b, add-one j)

  -- the wires set after a gate that is not refused are no more than there are
  pub set_within : {s r : ℕ} → (gate_answer text j).number ≡ 0 → s ≡ set_count text j → r ≡ result_count text (gate_at text j) → s + r ≤ wires text
  set_within h a b = let g = gate_good text j h in let room = g.count.room in let half = g.results in omega arith

-- ---- before the first gate

zeros : (n i : ℕ) → at (replicate n 0) i ≡ 0
zeros zero i = refl
zeros (suc n) zero = refl
zeros (suc n) (suc i) = zeros n i

none_held : (n w : ℕ) → held_bit (replicate n 0) w ≡ false
unfolding held_bit
none_held n w = rw (zeros n (w / 8), zero-div (2 ^ (w % 8)))

-- bits all 0 but for the inputs
pub holds_first : (text : List ℕ) (n : ℕ) (bits : List ℕ) {ins : ℕ} → 8 * n ≡ held → ins ≡ inputs text → length bits ≡ length (replicate {A = ℕ} n 0)
    → ((w : ℕ) → w < 8 * length (replicate {A = ℕ} n 0) → held_bit bits w ≡ held_bit (replicate n 0) w || ltb w ins) → Holds text bits 0 0
unfolding is_set among
holds_first text n bits long i l h =
    let z = length-replicate {A = ℕ} n 0 in
    record {
      long = omega arith;
      each = λ w b. h w (omega arith) ∙ rw (none_held n w, i, or-false (ltb w (inputs text)));
    }

-- what the loop over the gates has before gate j: where it stands, how many wires are set, how many gates of our own and which limit came before, that none was refused,
-- and which wires are set
pub record Carried (text bits : List ℕ) (total j p set ours : ℕ) (limit : Outcome) : Type 0 where
  pub at_gate : p ≡ gate_at text j
  pub set_is : set ≡ set_count text j
  pub set_to : set ≤ wires text
  pub made_is : ours ≡ made text j
  pub limit_is : limit ≡ outcome (first (gate_limit text) 0 j)
  pub left : first (gate_answer text) 0 total ≡ first (gate_answer text) j (total - j)
  pub holds : Holds text bits j 0

module _ (text bits : List ℕ) (total : ℕ) where
  pub carried_first : {p set : ℕ} → p ≡ body text → set ≡ inputs text → set ≤ wires text → Holds text bits 0 0 → Carried text bits total 0 p set 0 done
  unfolding gate_at set_count made first
  carried_first a b h o =
      record { at_gate = a; set_is = b; set_to = h; made_is = refl; limit_is = refl; left = first_start (gate_answer text) total; holds = o }

  pub carried_next : (j : ℕ) {p set ours w : ℕ} {limit l : Outcome} {after : List ℕ} {g : GateRead} → Carried text bits total j p set ours limit → j < total
      → given (gate_answer text j) (gate_of text j) ≡ Ok g → Holds text after (suc j) 0
      → l ≡ result_and limit (unless (not (eqb g.name mand_name) && (eqb g.name eqw_name || ltb ours 1024)) (Limit g.named) done) → w ≡ cond (eqb g.name eqw_name) 0 1
      → Carried text after total (j + 1) g.at (set + g.results) (ours + w) l
  unfolding gate_of named_of
  carried_next j {g = g} c h e o el ew =
      let k = passed (gate_answer text j) (gate_of text j) e in
      let results = ap (λ (x : GateRead). x.results) k.1 in
      let name = ap (λ (x : GateRead). x.name) k.1 in
      record {
        at_gate = ap (λ (x : GateRead). x.at) k.1 ∙ sym (gate_next text j);
        set_is = set_next text j c.set_is results;
        set_to = set_within text j k.0 c.set_is results;
        made_is = made_next text j c.made_is name ew;
        limit_is = limit_next text j c.limit_is name c.made_is (ap (λ (x : GateRead). x.named) k.1) el;
        left = c.left ∙ first_step (gate_answer text) j total h k.0;
        holds = rw add-one o;
      }

  -- a gate is refused
  pub stops : {A : Type 0} (j : ℕ) (v : A) {r : Refusal} → first (gate_answer text) 0 total ≡ first (gate_answer text) j (total - j) → j < total → given (gate_answer text j) (gate_of text j) ≡ Err r
      → Err r ≡ given (first (gate_answer text) 0 total) v
  stops j v l h e = refused_by (gate_answer text j) (first (gate_answer text) 0 total) (gate_of text j) v e (λ d. l ∙ first_stop (gate_answer text) j total h d)
