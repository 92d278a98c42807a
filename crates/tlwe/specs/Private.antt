-- What only private contracts and proofs need: the number of a plaintext.
use Rattle.std.specs.Prelude.{ℕ}
use Rattle.params.specs.Refusal.{check}
use Rattle.tlwe.specs.declared.Plain.{Plain}
use Rattle.tlwe.specs.Plain.{is_plain}

-- Refusal 5 of a plaintext that is not taken, else 0.
abbrev pub plain_number : Plain → ℕ
plain_number plain = check (is_plain plain) 5 0
