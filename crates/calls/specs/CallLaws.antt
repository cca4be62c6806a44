-- Laws of calls: what meets a contract's precondition is one, and a slice of bytes that is lent in one holds bytes.
use Prim.{IsProp}
use Rattle.std.specs.Prelude.{ℕ, zero, suc, List, [], ◌∷◌}
use mathlib.Core.HLevel.{Π_prop}
use Rattle.std.proofs.Math.Logic.{∥∥₁_elim}
use Rattle.std.proofs.Math.Bridge.{le_prop}
use Rattle.std.proofs.Common.{arith}
use seplogic.Ra.Ura.{Ura}
use Rattle.std.specs.Int.{w8}
use mir.Syntax.{named}
use mir.Val.{Val}
use base.Fml.{Fml, Lft, Share, flft}
use base.Logic.{SProp, ent, sep, emp, guard, via, emp∗, comm∗, mono∗, mono_r, fst∗, snd∗}
use prog.Memory.{Memory}
use prog.Model.{Model}
use prog.Wp.{Heap}
use types.Logic.{Logic, sem}
use types.Kit.{‵, ◌⊛◌, ◌$◌, !, qed, move, use1, use2, given, learn, check, drop, later, await, updating, done, now as at_once}
use contract.Adequate.{Satisfies, sat_weaken, sat_⇛, sat_fact}
use contract.Lifetimes.{Lfts, Shares, Within, lft_at, toks}
use contract.Monad.{fact}
use denote.Builtin.{SliceRef, SliceRefMut, u8}
use denote.RattleType.{Denots, Valss, owns}
use Rattle.std.specs.Borrow.{Bor, MutBor}
use denote.Signature.{Signature, Slot, type_at, types_at}
use denote.Triple.CanOwn.{CanOwn}
use denote.Triple.Entry.{Vals, on_entry}
use denote.Triple.Spec.{Spec, triple_of}
use borrow.Fn.World.{World, Pr}
use borrow.Kind.MutSlice.{mut_laws}
use borrow.Kind.ShrSlice.{shr_laws}
use borrow.Rule.Slice.Element.{OwnS}
use borrow.Rule.Slice.Know.{AllWt, fit_at, shs_known, sl_known}
use borrow.Rule.Slice.Shared.{OwnH}
use borrow.Table.Referent.{f_int, rt_f}
use Rattle.laws.specs.Bytes.{Bytes}
use Rattle.calls.specs.Call.{Call, BytesAt, shared, buffer, next, bytes_at, lent}

-- the share of a lifetime's token
abbrev share_at : (n j : ℕ) → Within n j → Shares n → Share
share_at zero j ok qs = absurd ok
share_at (suc n) zero ok qs = qs.0
share_at (suc n) (suc j) ok qs = share_at n j ok qs.1

abbrev Fit : List ℕ → Type 0
Fit = AllWt (f_int w8)

module _ {M : Type 1} {𝓤 : Ura M} (𝓛 : Logic 𝓤) where
  open 𝓛 use {H, A}

  abbrev ⟦◌⟧ : Fml → SProp 𝓤
  ⟦ P ⟧ = sem 𝓛 P

  token_at : (n j : ℕ) (ok : Within n j) (κs : Lfts n) (qs : Shares n) → ent 𝓤 (toks 𝓛 n κs qs) (A.lft (lft_at n j ok κs) (share_at n j ok qs))
  token_at zero j ok κs qs = absurd ok
  token_at (suc n) zero ok κs qs = fst∗ 𝓤 (A.lft κs.0 qs.0) (toks 𝓛 n κs.1 qs.1)
  token_at (suc n) (suc j) ok κs qs =
      via 𝓤 (toks 𝓛 n κs.1 qs.1) (snd∗ 𝓤 (A.lft κs.0 qs.0) (toks 𝓛 n κs.1 qs.1)) (token_at n j ok κs.1 qs.1)

  -- the borrow is opened, its bytes are looked at, and it is closed
  opened : (κ : Lft) (q : Share) (own owned : Fml) (seen : Type 0) (l : List ℕ) → ent 𝓤 ⟦ own ⟧ (guard 𝓤 seen ⟦ owned ⟧)
      → ent 𝓤 (sep 𝓤 ⟦ owned ⟧ (A.lft κ q)) (H.⇛ (guard 𝓤 (Fit l) (sep 𝓤 ⟦ owned ⟧ (A.lft κ q))))
      → ent 𝓤 (sep 𝓤 (A.lft κ q) ⟦ own ⟧) (H.⇛ (fact 𝓤 (Fit l)))
  opened κ q own owned seen l see look =
      qed 𝓛 (‵ (flft κ q) ∷ ‵ own ∷ []) {P = H.⇛ (fact 𝓤 (Fit l))} (
      move ! (1 ∷ 0 ∷ []) $ use1 𝓛 (given seen (‵ owned)) see $ learn ! (λ g.
      updating ! $ use2 𝓛 (later (given (Fit l) (‵ owned ⊛ ‵ (flft κ q)))) look $ await ! tt $ learn ! (λ e. at_once ! $ check ! e $ drop ! $ done !)))

  module _ (n : ℕ) (κs : Lfts n) (qs : Shares n) where
    -- what a parameter of the type s owns
    abbrev own : (s : Slot n) → (type_at s κs).Denot → List Val → Fml
    own s x vs = (type_at s κs).own_val x vs

    module _ (j : ℕ) (ok : Within n j) where
      abbrev κ : Lft
      κ = lft_at n j ok κs

      abbrev q : Share
      q = share_at n j ok qs

      shared_fit : (x : Bor (List ℕ)) (vs : List Val) → ent 𝓤 (sep 𝓤 (A.lft κ q) ⟦ own (SliceRef j ok u8 tt) x vs ⟧) (H.⇛ (fact 𝓤 (Fit x.now)))
      shared_fit x vs =
          opened κ q (own (SliceRef j ok u8 tt) x vs) (OwnH 𝓛 (f_int w8) κ q x.ref_ptr.0 x.ref_ptr.1 x.now) _ x.now
          ((shr_laws 𝓛 n (rt_f (f_int w8)) (named j) j ok).own_in κs x vs) (shs_known 𝓛 (f_int w8) κ q x.ref_ptr.0 x.ref_ptr.1 x.now)

      buffer_fit : (x : MutBor (List ℕ)) (vs : List Val) → ent 𝓤 (sep 𝓤 (A.lft κ q) ⟦ own (SliceRefMut j ok u8 tt) x vs ⟧) (H.⇛ (fact 𝓤 (Fit x.now)))
      buffer_fit x vs =
          opened κ q (own (SliceRefMut j ok u8 tt) x vs) (OwnS 𝓛 (rt_f (f_int w8)) κ q x.ref_ptr.0 x.ref_ptr.1 x.ghost_name x.now) _ x.now
          ((mut_laws 𝓛 n (rt_f (f_int w8)) (named j) j ok).own_in κs x vs) (sl_known 𝓛 (f_int w8) κ q x.ref_ptr.0 x.ref_ptr.1 x.ghost_name x.now)

      -- one lifetime's token, and what the first parameter owns
      of_first : (s : Slot n) (x : (type_at s κs).Denot) (vs : List Val) (others : Fml)
          → ent 𝓤 (sep 𝓤 (toks 𝓛 n κs qs) (sep 𝓤 ⟦ own s x vs ⟧ ⟦ others ⟧)) (sep 𝓤 (A.lft κ q) ⟦ own s x vs ⟧)
      of_first s x vs others = mono∗ 𝓤 (token_at n j ok κs qs) (fst∗ 𝓤 ⟦ own s x vs ⟧ ⟦ others ⟧)

    lent_fit : {ss : List (Slot n)} (p : BytesAt ss) (a : Denots (types_at ss κs)) (vss : Valss (types_at ss κs))
        → ent 𝓤 (sep 𝓤 (toks 𝓛 n κs qs) ⟦ owns (types_at ss κs) a vss ⟧) (H.⇛ (fact 𝓤 (Fit (bytes_at p κs a))))
    lent_fit (shared j ok {ss}) a vss =
        via 𝓤 _ (of_first j ok (SliceRef j ok u8 tt) a.0 vss.0 (owns (types_at ss κs) a.1 vss.1)) (shared_fit j ok a.0 vss.0)
    lent_fit (buffer j ok {ss}) a vss =
        via 𝓤 _ (of_first j ok (SliceRefMut j ok u8 tt) a.0 vss.0 (owns (types_at ss κs) a.1 vss.1)) (buffer_fit j ok a.0 vss.0)
    lent_fit (next {s} {ss} p) a vss =
        let others = owns (types_at ss κs) a.1 vss.1 in
        via 𝓤 (sep 𝓤 (toks 𝓛 n κs qs) ⟦ others ⟧) (mono_r 𝓤 (toks 𝓛 n κs qs) (snd∗ 𝓤 ⟦ own s a.0 vss.0 ⟧ ⟦ others ⟧)) (lent_fit p a.1 vss.1)

-- what an update shows beside some memory is so
shown : {M : Type 1} (𝓤 : Ura M) (H : Heap 𝓤) (𝓜 : Model 𝓤 H) (σ : Memory) (P : SProp 𝓤) (φ : Type 0)
    → ent 𝓤 P (H.⇛ (fact 𝓤 φ)) → Satisfies 𝓤 H 𝓜 σ P → ∥ φ ∥₁
shown 𝓤 H 𝓜 σ P φ shows s =
    let so = fact 𝓤 φ in
    let later = H.⇛ so in
    sat_fact 𝓤 H 𝓜 σ (sep 𝓤 so (emp 𝓤)) φ (via 𝓤 (sep 𝓤 so (emp 𝓤)) (snd∗ 𝓤 (𝓜.mem σ) (sep 𝓤 so (emp 𝓤))) (fst∗ 𝓤 so (emp 𝓤)))
    (sat_⇛ 𝓤 H 𝓜 σ so (emp 𝓤) (sat_weaken 𝓤 H 𝓜 σ (via 𝓤 later shows (via 𝓤 (sep 𝓤 (emp 𝓤) later) (emp∗ 𝓤 later) (comm∗ 𝓤 (emp 𝓤) later))) s))

bytes_prop : (l : List ℕ) → IsProp (Bytes l)
bytes_prop l = Π_prop (λ i. le_prop)

fit_bytes : (l : List ℕ) → Fit l → Bytes l
fit_bytes l fit i = (fit_at (f_int w8) 0 (record { fits = omega arith }) l fit i).fits

module _ {signature : Signature} (call : Call signature) (p : BytesAt signature.params) where
  -- In every call a lent slice of bytes holds bytes.
  pub lent_bytes : Bytes (lent call p)
  unfolding Satisfies
  lent_bytes = ∥∥₁_elim call.held (bytes_prop (lent call p)) by
    where
      w : World
      w = call.model

      entry : Shares signature.lifetimes → Vals signature call.lifetimes → Pr w
      entry qs vss = on_entry w.𝓛 signature call.lifetimes qs call.arguments vss

      by : (σ : Memory) × (qs : Shares signature.lifetimes) × (vss : Vals signature call.lifetimes) × Satisfies w.𝓤 w.𝓛.H w.𝓜 σ (entry qs vss)
          → Bytes (lent call p)
      by t =
          let fits = lent_fit w.𝓛 signature.lifetimes call.lifetimes t.1 p call.arguments t.2 in
          let seen = shown w.𝓤 w.𝓛.H w.𝓜 t.0 (entry t.1 t.2) (Fit (lent call p)) fits t.3 in
          ∥∥₁_elim seen (bytes_prop (lent call p)) (fit_bytes (lent call p))

-- Where any memory meets a contract's precondition, beside whatever else there is, the arguments are those of a call.
module _ (w : World) (signature : Signature) (contract : Spec w.𝓤 signature) (x : (triple_of w.𝓛 signature contract).Ghost) where
  pub precondition_held : (σ : Memory) (others : Pr w)
      → Satisfies w.𝓤 w.𝓛.H w.𝓜 σ (sep w.𝓤 ((triple_of w.𝓛 signature contract).pre x) others)
      → CanOwn w.𝓛 w.𝓜.mem signature x.0.0 x.0.3
  unfolding Satisfies
  precondition_held σ others s =
      let entry = on_entry w.𝓛 signature x.0.0 x.0.1 x.0.3 x.0.4 in
      let asked = (contract x.0.0 x.0.3).requires x.1 in
      let entered = via w.𝓤 (sep w.𝓤 entry asked) (fst∗ w.𝓤 (sep w.𝓤 entry asked) others) (fst∗ w.𝓤 entry asked) in
      ∣ (σ, x.0.1, x.0.4, sat_weaken w.𝓤 w.𝓛.H w.𝓜 σ entered s) ∣₁
