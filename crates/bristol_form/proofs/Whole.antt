-- A whole text's answer from those of its parts: the head, the gates, the end, and then the limits.
-- Assumes nothing.
use mathlib.Core.Path.{◌≡◌, sym, ap, ◌∙◌}
use mathlib.Core.List.{List}
use Prim.Native.Nat.{ℕ}
use native.Mathlib.Omega.{arith}
use borrow.Author.Tests.{eq-eqb, ne_eqb, eqb-true, eqb-false}
use lib.Dec.{eqb}
use lib.ListN.{length}
use Rattle.params.specs.Refusal.{Answer}
use Rattle.params.specs.Refusal.{answer, given, outcome, unless, done}
use Rattle.circuit.specs.Form.{first, or_else}
use Rattle.circuit.proofs.Accept.{or_done}
use Rattle.tokens.specs.Tokens.{start_of, token_at}
use Rattle.bristol_form.specs.Says.{gates, wires, inputs, outputs, body, gate_at, made}
use Rattle.bristol_form.specs.Form.{head_answer, gate_answer, end_answer, form_answer, gate_limit, head_limit, limit_answer, text_answer, checked_of}
use Rattle.bristol_form.proofs.Tells.{or_first, refused_by, passed, unless_text, unless_held, given_value}
use Rattle.bristol_form.specs.Private.{Says, head_of, gates_of}
use Rattle.bristol_form.specs.declared.Contents.{Contents}
use Rattle.bristol_form.specs.declared.HeadRead.{HeadRead}
use Rattle.bristol_form.specs.declared.GatesRead.{GatesRead}
use Rattle.bristol_form.proofs.AcceptHead.{head_good}
use Rattle.tokens.specs.declared.Token.{Token}
use Rattle.tokens.proofs.Reading.{start_as}
use Rattle.std.specs.Prelude.{Ok, Err}
use Rattle.params.specs.declared.refusal.Refusal.{Refusal}
use Rattle.params.specs.declared.refusal.Refusal.TheVariants.{Text}

module _ (text : List ℕ) where
  pub head_refused : ((head_answer text).number ≡ 0 → ⊥) → text_answer text ≡ head_answer text
  unfolding text_answer form_answer
  head_refused d = let e = or_first (head_answer text) (or_else (first (gate_answer text) 0 (gates text)) (end_answer text)) d in rw e (or_first (head_answer text) (limit_answer text) d)

  abbrev gates_answer : Answer
  gates_answer = first (gate_answer text) 0 (gates text)

  module _ (h : (head_answer text).number ≡ 0) where
    pub gates_refused : (gates_answer.number ≡ 0 → ⊥) → text_answer text ≡ gates_answer
    unfolding text_answer form_answer
    gates_refused d =
        let e = or_done (head_answer text) (or_else gates_answer (end_answer text)) h ∙ or_first gates_answer (end_answer text) d in
        rw e (or_first gates_answer (limit_answer text) d)

    module _ (g : gates_answer.number ≡ 0) where
      formed_by : form_answer text ≡ end_answer text
      unfolding form_answer
      formed_by = or_done (head_answer text) _ h ∙ or_done gates_answer _ g

      pub more_follows : {p : ℕ} → p ≡ start_of text (gate_at text (gates text)) → (p ≡ length text → ⊥) → text_answer text ≡ record { number = 11; place = start_of text (gate_at text (gates text)) }
      unfolding text_answer end_answer
      more_follows {p} e d = rw (formed_by, ne_eqb (start_of text (gate_at text (gates text))) (length text) (λ z. d (e ∙ z)))

      module _ (end : start_of text (gate_at text (gates text)) ≡ length text) where
        formed : (form_answer text).number ≡ 0
        unfolding end_answer
        formed =
            let ended : end_answer text ≡ answer 0 = rw (eq-eqb (start_of text (gate_at text (gates text))) (length text) end) in
            ap (λ (a : Answer). a.number) (formed_by ∙ ended)

        pub limits_decide : text_answer text ≡ or_else (head_limit text) (first (gate_limit text) 0 (gates text))
        unfolding text_answer limit_answer
        limits_decide = or_done (form_answer text) _ formed

-- ---- what the parts handed back

module _ (text : List ℕ) where
  abbrev contents : Contents
  contents = record { gates = gates text; wires = wires text; inputs = inputs text; outputs = outputs text; made = made text (gates text); body = body text }

  -- the head is refused
  pub refused_head : {r : Refusal} → given (head_answer text) (head_of text) ≡ Err r → Err r ≡ checked_of text
  unfolding checked_of
  refused_head e = refused_by (head_answer text) (text_answer text) (head_of text) contents e (head_refused text)

  module _ (h : HeadRead) (H : given (head_answer text) (head_of text) ≡ Ok h) where
    head_passed : ((head_answer text).number ≡ 0) × (h ≡ head_of text)
    head_passed = passed (head_answer text) (head_of text) H

    pub says : Says text h
    unfolding head_of
    says =
        let g = head_good text head_passed.0 in
        let e = head_passed.1 in
        let gates_are = ap (λ (x : HeadRead). x.gates) e in
        let wires_are = ap (λ (x : HeadRead). x.wires) e in
        let inputs_are = ap (λ (x : HeadRead). x.inputs) e in
        let small = g.wires_number in
        let each = g.wire_each in
        record { gates_are = gates_are; wires_are = wires_are; inputs_are = inputs_are; body_is = ap (λ (x : HeadRead). x.body) e; wires_small = omega arith; wire_each = omega arith }

    limit_told : h.limit ≡ outcome (head_limit text)
    unfolding head_of
    limit_told = ap (λ (x : HeadRead). x.limit) head_passed.1

    -- a gate is refused
    pub refused_gates : {r : Refusal} → given (first (gate_answer text) 0 (gates text)) (gates_of text) ≡ Err r → Err r ≡ checked_of text
    unfolding checked_of
    refused_gates e = refused_by (first (gate_answer text) 0 (gates text)) (text_answer text) (gates_of text) contents e (gates_refused text head_passed.0)

    module _ (g : GatesRead) (G : given (first (gate_answer text) 0 (gates text)) (gates_of text) ≡ Ok g) where
      gates_passed : ((first (gate_answer text) 0 (gates text)).number ≡ 0) × (g ≡ gates_of text)
      gates_passed = passed (first (gate_answer text) 0 (gates text)) (gates_of text) G

      module _ (t : Token) (T : t ≡ token_at text g.at) where
        end_read : t.start ≡ start_of text (gate_at text (gates text))
        unfolding gates_of
        end_read = start_as text T (ap (λ (x : GatesRead). x.at) gates_passed.1)

        -- something follows the gates
        pub refused_end : {r : Refusal} → unless (eqb t.start (length text)) (Text t.start) done ≡ Err r → Err r ≡ checked_of text
        unfolding checked_of
        refused_end e =
            unless_text (eqb t.start (length text)) t.start (text_answer text) contents (start_of text (gate_at text (gates text))) e end_read
            (λ z. more_follows text head_passed.0 gates_passed.0 end_read (eqb-false t.start (length text) z))

        module _ {u : Unit {0}} (E : unless (eqb t.start (length text)) (Text t.start) done ≡ Ok u) where
          limited : text_answer text ≡ or_else (head_limit text) (first (gate_limit text) 0 (gates text))
          limited =
              limits_decide text head_passed.0 gates_passed.0
              (sym end_read ∙ eqb-true t.start (length text) (unless_held (eqb t.start (length text)) (Text t.start) E))

          -- the head passes a limit
          pub head_limited : {r : Refusal} → h.limit ≡ Err r → Err r ≡ checked_of text
          unfolding checked_of
          head_limited e =
              refused_by (head_limit text) (text_answer text) tt contents (sym limit_told ∙ e) (λ d. limited ∙ or_first (head_limit text) (first (gate_limit text) 0 (gates text)) d)

          module _ {w : Unit {0}} (L : h.limit ≡ Ok w) where
            gates_decide : text_answer text ≡ first (gate_limit text) 0 (gates text)
            gates_decide = limited ∙ or_done (head_limit text) (first (gate_limit text) 0 (gates text)) (passed (head_limit text) tt (sym limit_told ∙ L)).0

            gate_limit_told : g.limit ≡ outcome (first (gate_limit text) 0 (gates text))
            unfolding gates_of
            gate_limit_told = ap (λ (x : GatesRead). x.limit) gates_passed.1

            -- a gate does
            pub gates_limited : {r : Refusal} → g.limit ≡ Err r → Err r ≡ checked_of text
            unfolding checked_of
            gates_limited e =
                refused_by (first (gate_limit text) 0 (gates text)) (text_answer text) tt contents (sym gate_limit_told ∙ e) (λ d. gates_decide)

            -- nothing is refused
            pub accepted_as : {v : Unit {0}} → g.limit ≡ Ok v
                → Ok (record { gates = h.gates; wires = h.wires; inputs = h.inputs; outputs = h.outputs; made = g.made; body = h.body }) ≡ checked_of text
            unfolding checked_of head_of gates_of
            accepted_as e =
                let x = head_passed.1 in
                let y = gates_passed.1 in
                given_value (text_answer text) contents
                (ap (λ (a : Answer). a.number) gates_decide ∙ (passed (first (gate_limit text) 0 (gates text)) tt (sym gate_limit_told ∙ e)).0)
                (λ i. record { gates = (x i).gates; wires = (x i).wires; inputs = (x i).inputs; outputs = (x i).outputs; made = (y i).made; body = (x i).body })
