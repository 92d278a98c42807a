-- Two outcomes that a contract of this crate allows coincide: of the contract itself, as `rattle` reads it from the code, for every public routine (01, 'What the contracts owe').
-- Assumes nothing.
use Rattle.ring.proofs.Outcomes.{Determined, said}
use Rattle.tokens.proofs.backwards.back as back
use Rattle.tokens.specs.contracts.backwards.back as back_c
use Rattle.tokens.proofs.name as name
use Rattle.tokens.specs.contracts.name as name_c
use Rattle.tokens.proofs.next as next
use Rattle.tokens.specs.contracts.next as next_c
use Rattle.tokens.proofs.skip as skip
use Rattle.tokens.specs.contracts.skip as skip_c

pub next_determined : Determined next_c.ended next.Reads.Learnt
next_determined κs a x y v w = said

pub skip_determined : Determined skip_c.ended skip.Reads.Learnt
skip_determined κs a x y v w = said

pub name_determined : Determined name_c.ended name.Reads.Learnt
name_determined κs a x y v w = said

pub back_determined : Determined back_c.ended back.Reads.Learnt
back_determined κs a x y v w = said
