-- How a thin call is proved by a walk of its code by hand. `rattle` makes these walks itself, so no proof of this crate cites these laws today. A thin call's code takes its views apart and makes one
-- call. So what it is lent gives what its callee asks (`asked`: each value the one in its place, a view its slice); a walk of the code goes from there to the call and back; what comes back is a value
-- of its type (`landed`); and the callee's promise is the thin call's own, which computes. Of a parameter's type the walk knows what `Known` says, and `meets` takes the walk to the contract.
-- Assumes nothing.
use mathlib.Core.Path.{◌≡◌, refl}
use mathlib.Core.List.{List, [], ◌∷◌}
use seplogic.Ra.Ura.{Ura}
use base.Fraction.{full_share}
use Prim.Native.Nat.{ℕ, zero}
use mir.Syntax.{Lifetime, Ty, w64}
use mir.Val.{Val, vstruct, vnil, vcons}
use base.Logic.{SProp, ent, sep, ex, guard, emp, via, comm∗, mono∗, mono_r, fst∗, snd∗, emp∗, ex_e, guard_i, id⊢}
use base.Fml.{Lft, fat, fdies}
use prog.Wp.{Env}
use types.Logic.{Logic, sem}
use contract.Lifetimes.{Lfts, Shares, AllOutlive}
use contract.Monad.{Fun, fact, fact_i, fact_use}
use types.Kit.{Item, Goal, Step, step, frees, ‵, given, ◌$◌, ◌∵◌, !, qed, move, drop, use1, learn, fsplit, fjoin, fpack, feq_i, done}
use types.Run.{forget, free1}
use denote.RattleType.{RattleType, Denots, Valss, mirs, flat, owns}
use denote.Laws.{Typed, Is, Ises, Spells, Tells, Tellss, Lawful, Lawfuls, valss, shows, all_Typed}
use denote.Plain.{uint_vals, uint_Tells, uint_Lawful}
use denote.Builtin.{u32, usize}
use denote.Ref.{Bor, NamedLft}
use denote.Signature.{Signature, type_at, types_at}
use denote.Slice.{ShrSlice, MutSlice, shr_slice_vals, mut_slice_vals, shr_slice_Tells, shr_slice_Lawful, mut_slice_Tells, mut_slice_Lawful}
use denote.Steps.{said, nothing}
use denote.Enum.Laws as EL
use denote.Struct.Declared.{shape}
use denote.Struct.Field.{rows}
use denote.Struct.Laws as LL
use denote.Struct.Rest.{all_own, own_open}
use denote.Struct.Struct.{within}
use denote.Struct.Values.{intos}
use denote.Triple.Entry.{Args, Vals, Res, alive, on_entry}
use denote.Triple.Spec.{Spec, Back, Meets, triple_of}
use Rattle.params.specs.contracts.Params as P
use Rattle.params.proofs.Params.TheLaws as P'
use Rattle.gate_sums.specs.contracts.Kind as G
use Rattle.gate_sums.proofs.Kind.TheLaws as G'
use Rattle.key_views.specs.declared.SwitchingKey.{SwitchingKey}
use Rattle.key_views.specs.declared.BootstrappingKey.{BootstrappingKey}
use Rattle.key_views.specs.contracts.SwitchingKey as S
use Rattle.key_views.proofs.SwitchingKey.TheLaws as S'
use Rattle.key_views.specs.contracts.BootstrappingKey as B
use Rattle.key_views.proofs.BootstrappingKey.TheLaws as B'

-- what no two lists of different lengths have
abbrev Never : Type 1
Never = (X : Type 0) → X

module _ {M : Type 1} {𝓤 : Ura M} (𝓛 : Logic 𝓤) where
  -- ---- what a thin call is lent gives what its callee asks
  -- each value gives the one in its place
  abbrev pub Gives : (Ts Us : List RattleType) → Denots Ts → Denots Us → Valss Ts → Valss Us → Type 1
  Gives [] [] a b vss uss = Unit {1}
  Gives [] (U ∷ Us) a b vss uss = Never
  Gives (T ∷ Ts) [] a b vss uss = Never
  Gives (T ∷ Ts) (U ∷ Us) a b vss uss = ent 𝓤 (sem 𝓛 (T.own_val a.0 vss.0)) (sem 𝓛 (U.own_val b.0 uss.0)) × Gives Ts Us a.1 b.1 vss.1 uss.1

  gives : (Ts Us : List RattleType) (a : Denots Ts) (b : Denots Us) (vss : Valss Ts) (uss : Valss Us) → Gives Ts Us a b vss uss → ent 𝓤 (sem 𝓛 (owns Ts a vss)) (sem 𝓛 (owns Us b uss))
  gives [] [] a b vss uss g = id⊢ 𝓤 (emp 𝓤)
  gives [] (U ∷ Us) a b vss uss g = absurd (g ⊥)
  gives (T ∷ Ts) [] a b vss uss g = absurd (g ⊥)
  gives (T ∷ Ts) (U ∷ Us) a b vss uss g = mono∗ 𝓤 g.0 (gives Ts Us a.1 b.1 vss.1 uss.1 g.1)

  -- with the lifetimes' tokens P, and nothing required beside it
  pub asked : (P : SProp 𝓤) (Ts Us : List RattleType) (a : Denots Ts) (b : Denots Us) (vss : Valss Ts) (uss : Valss Us) → Gives Ts Us a b vss uss
      → ent 𝓤 (sep 𝓤 P (sem 𝓛 (owns Ts a vss))) (sep 𝓤 (sep 𝓤 P (sem 𝓛 (owns Us b uss))) (emp 𝓤))
  asked P Ts Us a b vss uss g =
      let Q : SProp 𝓤 = sep 𝓤 P (sem 𝓛 (owns Us b uss)) in
      via 𝓤 Q (mono_r 𝓤 P (gives Ts Us a b vss uss g)) (via 𝓤 (sep 𝓤 (emp 𝓤) Q) (emp∗ 𝓤 Q) (comm∗ 𝓤 (emp 𝓤) Q))

  -- ---- what a walk knows of a parameter's type: how a value's machine values are spelled, that the type tells them, and that they are of its MIR types
  pub record Known (T : RattleType) : Type 1 where
    pub vals : T.Denot → List Val
    pub tells : Tells T (Is T) vals
    pub lawful : Lawful 𝓛 T

  abbrev pub Knowns : List RattleType → Type 1
  Knowns [] = Unit {1}
  Knowns (T ∷ Ts) = Known T × Knowns Ts

  abbrev pub spells : (Ts : List RattleType) → Knowns Ts → Spells Ts
  spells [] ks = tt
  spells (T ∷ Ts) ks = (ks.0.vals, spells Ts ks.1)

  abbrev tellss : (Ts : List RattleType) (ks : Knowns Ts) → Tellss Ts (Ises Ts) (spells Ts ks)
  tellss [] ks = tt
  tellss (T ∷ Ts) ks = (ks.0.tells, tellss Ts ks.1)

  abbrev lawfuls : (Ts : List RattleType) → Knowns Ts → Lawfuls 𝓛 Ts
  lawfuls [] ks = tt
  lawfuls (T ∷ Ts) ks = (ks.0.lawful, lawfuls Ts ks.1)

  module _ where
    abbrev pub params_known : Known P.the_row
    params_known = record { vals = LL.vals P.the_type P'.the_laws; tells = LL.tells P.the_type P'.the_laws; lawful = LL.lawful P.the_type P'.the_laws 𝓛 }

    abbrev pub kind_known : Known G.the_row
    kind_known = record { vals = EL.vals G.the_type G'.the_laws; tells = EL.tells G.the_type G'.the_laws; lawful = EL.lawful G.the_type G'.the_laws 𝓛 tt }

    abbrev pub usize_known : Known usize
    usize_known = record { vals = uint_vals w64; tells = uint_Tells w64; lawful = uint_Lawful 𝓛 w64 }

    abbrev pub slice_known : (ℓ : Lifetime) (κ : Lft) → Known (ShrSlice ℓ κ u32)
    slice_known ℓ κ = record { vals = shr_slice_vals; tells = shr_slice_Tells ℓ κ u32; lawful = shr_slice_Lawful 𝓛 ℓ κ u32 }

    abbrev pub mut_known : (ℓ : Lifetime) (κ : Lft) → Known (MutSlice ℓ κ u32)
    mut_known ℓ κ = record { vals = mut_slice_vals; tells = mut_slice_Tells ℓ κ u32; lawful = mut_slice_Lawful 𝓛 ℓ κ u32 }

    -- ---- a view, and the slice that it gives
    module _ (α : NamedLft) where
      abbrev pub switching_known : Known (S.the_row α)
      switching_known = record { vals = LL.vals (S.the_type α) (S'.the_laws α); tells = LL.tells (S.the_type α) (S'.the_laws α); lawful = LL.lawful (S.the_type α) (S'.the_laws α) 𝓛 }

      abbrev pub bootstrapping_known : Known (B.the_row α)
      bootstrapping_known = record { vals = LL.vals (B.the_type α) (B'.the_laws α); tells = LL.tells (B.the_type α) (B'.the_laws α); lawful = LL.lawful (B.the_type α) (B'.the_laws α) 𝓛 }

      pub switching_slice : (d : SwitchingKey) → ent 𝓤 (sem 𝓛 ((S.the_row α).own_val d (S'.lowered d ∷ []))) (sem 𝓛 ((ShrSlice α.mir α.lft u32).own_val d.lent (shr_slice_vals d.lent)))
      switching_slice d =
          qed 𝓛 (‵ ((S.the_row α).own_val d (S'.lowered d ∷ [])) ∷ []) ∵
          use1 𝓛 (given (S'.lowered d ∷ [] ≡ S'.lowered d ∷ []) (‵ (all_own (S.the_type α).parts (S'.the_laws α) (d.lent, tt)))) (own_open 𝓛 (S.the_type α) (S'.the_laws α) (d.lent, tt) (S'.lowered d)) $
          learn ! (λ _. fsplit ! $ move ! (1 ∷ []) $ drop ! $ done !)

      pub bootstrapping_slice : (d : BootstrappingKey) → ent 𝓤 (sem 𝓛 ((B.the_row α).own_val d (B'.lowered d ∷ []))) (sem 𝓛 ((ShrSlice α.mir α.lft u32).own_val d.lent (shr_slice_vals d.lent)))
      bootstrapping_slice d =
          qed 𝓛 (‵ ((B.the_row α).own_val d (B'.lowered d ∷ [])) ∷ []) ∵
          use1 𝓛 (given (B'.lowered d ∷ [] ≡ B'.lowered d ∷ []) (‵ (all_own (B.the_type α).parts (B'.the_laws α) (d.lent, tt)))) (own_open 𝓛 (B.the_type α) (B'.the_laws α) (d.lent, tt) (B'.lowered d)) $
          learn ! (λ _. fsplit ! $ move ! (1 ∷ []) $ drop ! $ done !)

      -- a slice in a view
      pub switching_view : (r : Bor (List ℕ)) (u : Val) → ent 𝓤 (sem 𝓛 ((ShrSlice α.mir α.lft u32).own_val r (u ∷ []))) (sem 𝓛 ((S.the_row α).own_val (record { lent = r }) (vstruct (vcons u vnil) ∷ [])))
      switching_view r u =
          qed 𝓛 (‵ ((ShrSlice α.mir α.lft u32).own_val r (u ∷ [])) ∷ []) ∵ nothing ! $ move ! (1 ∷ 0 ∷ []) $ fjoin ! $ feq_i ! (List Val) (vstruct (vcons u vnil) ∷ []) (vstruct (vcons u vnil) ∷ []) refl $ fjoin ! $
          fpack ! (Valss (rows (S.the_type α).parts)) (within (shape (S.the_type α)) (intos (S.the_type α).parts (r, tt)) (vstruct (vcons u vnil) ∷ [])) (u ∷ [], tt) $ done !

      pub switching_typed : (r : Bor (List ℕ)) (u : Val) → Is (ShrSlice α.mir α.lft u32) r (u ∷ []) → Typed (S.the_row α).mir (vstruct (vcons u vnil) ∷ [])
      switching_typed r u is = (LL.lawful (S.the_type α) (S'.the_laws α) 𝓛).typed (record { lent = r }) (vstruct (vcons u vnil) ∷ []) ((u ∷ [], tt), (refl, (is, tt)))

      -- a slice in a view
      pub bootstrapping_view : (r : Bor (List ℕ)) (u : Val) → ent 𝓤 (sem 𝓛 ((ShrSlice α.mir α.lft u32).own_val r (u ∷ []))) (sem 𝓛 ((B.the_row α).own_val (record { lent = r }) (vstruct (vcons u vnil) ∷ [])))
      bootstrapping_view r u =
          qed 𝓛 (‵ ((ShrSlice α.mir α.lft u32).own_val r (u ∷ [])) ∷ []) ∵ nothing ! $ move ! (1 ∷ 0 ∷ []) $ fjoin ! $ feq_i ! (List Val) (vstruct (vcons u vnil) ∷ []) (vstruct (vcons u vnil) ∷ []) refl $ fjoin ! $
          fpack ! (Valss (rows (B.the_type α).parts)) (within (shape (B.the_type α)) (intos (B.the_type α).parts (r, tt)) (vstruct (vcons u vnil) ∷ [])) (u ∷ [], tt) $ done !

      pub bootstrapping_typed : (r : Bor (List ℕ)) (u : Val) → Is (ShrSlice α.mir α.lft u32) r (u ∷ []) → Typed (B.the_row α).mir (vstruct (vcons u vnil) ∷ [])
      bootstrapping_typed r u is = (LL.lawful (B.the_type α) (B'.the_laws α) 𝓛).typed (record { lent = r }) (vstruct (vcons u vnil) ∷ []) ((u ∷ [], tt), (refl, (is, tt)))

module _ {M : Type 1} {𝓤 : Ura M} (𝓛 : Logic 𝓤) (S : Signature) (c : Spec 𝓤 S) where
  -- ---- what a call hands back is a value of its type, and so has what follows from that, φ
  open 𝓛 use {H}

  module _ (y : (triple_of 𝓛 S c).Ghost) (u : Val) (φ : Type 0) (sure : (r : Res S y.0.0) → Is (type_at S.result y.0.0) r (u ∷ []) → φ) where
    abbrev R : RattleType
    R = type_at S.result y.0.0

    abbrev Told : Res S y.0.0 → SProp 𝓤
    Told r = sep 𝓤 (Back 𝓛 S y.0 u r) ((c y.0.0 y.0.3).ensures y.1 r)

    tells : (r : Res S y.0.0) → ent 𝓤 (Told r) (fact 𝓤 φ)
    tells r =
        let P : SProp 𝓤 = sem 𝓛 (R.own_val r (u ∷ [])) in
        via 𝓤 P
        (via 𝓤 (Back 𝓛 S y.0 u r) (fst∗ 𝓤 (Back 𝓛 S y.0 u r) ((c y.0.0 y.0.3).ensures y.1 r)) (snd∗ 𝓤 (alive 𝓛 S y.0.0 y.0.1) P))
        (fact_use 𝓤 (Is R r (u ∷ [])) (shows 𝓛 R r (u ∷ [])) (λ is. fact_i 𝓤 φ P (sure r is)))

    pub landed : ent 𝓤 ((triple_of 𝓛 S c).post y u) (H.⇛ (guard 𝓤 φ ((triple_of 𝓛 S c).post y u)))
    landed = 𝓛.laws.⇛_mono (ex 𝓤 Told) _ (fact_use 𝓤 φ (ex_e 𝓤 Told tells) (λ f. via 𝓤 (H.⇛ (ex 𝓤 Told)) (𝓛.laws.⇛_intro (ex 𝓤 Told)) (guard_i 𝓤 φ (H.⇛ (ex 𝓤 Told)) f)))

  -- ---- a run meets a contract that requires nothing where it does so at machine values that are spelled out and of their types
  abbrev pub param_types : Lfts S.lifetimes → List RattleType
  param_types κs = types_at S.params κs

  module _ (ks : (κs : Lfts S.lifetimes) → Knowns 𝓛 (param_types κs)) where
    abbrev pub lent : (κs : Lfts S.lifetimes) → Args S κs → Vals S κs
    lent κs a = valss (param_types κs) (spells 𝓛 (param_types κs) (ks κs)) a

    pub meets : (run : Fun 𝓤)
        → ((κs : Lfts S.lifetimes) (qs : Shares S.lifetimes) (bounds : AllOutlive S.lifetimes S.outlives κs) (a : Args S κs) (g : (c κs a).ghost) → Typed (mirs (param_types κs)) (flat (param_types κs) (lent κs a))
        → ent 𝓤 (on_entry 𝓛 S κs qs a (lent κs a)) (run (flat (param_types κs) (lent κs a)) ((triple_of 𝓛 S c).post ((κs, qs, bounds, a, lent κs a), g))))
        → Meets 𝓛 S run c
    meets run k y =
        let κs = y.0.0 in
        let a = y.0.3 in
        let N : SProp 𝓤 = (c κs a).requires y.1 in
        let Q : Vals S κs → SProp 𝓤 = λ us. run (flat (param_types κs) us) ((triple_of 𝓛 S c).post ((κs, y.0.1, y.0.2, a, us), y.1)) in
        via 𝓤 (on_entry 𝓛 S κs y.0.1 a y.0.4) (fst∗ 𝓤 (on_entry 𝓛 S κs y.0.1 a y.0.4) N)
        (said 𝓛 S κs y.0.1 (spells 𝓛 (param_types κs) (ks κs)) (tellss 𝓛 (param_types κs) (ks κs)) a Q y.0.4
        (λ are. k κs y.0.1 y.0.2 a y.1 (all_Typed 𝓛 (param_types κs) (lawfuls 𝓛 (param_types κs) (ks κs)) a (lent κs a) are)))

-- the local at the head of the context is freed
pub freed : {M : Type 1} {𝓤 : Ura M} {𝓛 : Logic 𝓤} {K : Type 0} {Γ : List (Item 𝓤)} → K → {τ : Ty} {b : ℕ} {v : Val} {E : Env 𝓤 𝓛.H} {g : Goal 𝓤 𝓛.H}
    → Step K 𝓛 Γ (frees E g) (‵ (fat full_share τ b zero v) ∷ ‵ (fdies τ b) ∷ Γ) (frees ((τ, b) ∷ E) g)
freed t = step (λ s. forget t 0 refl $ free1 t $ s)
