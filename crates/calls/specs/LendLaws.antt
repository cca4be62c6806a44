-- Any bytes that a memory has room for can be lent, as a slice and as a buffer: so what is said of all calls is said of all bytes.
use Rattle.std.specs.Prelude.{List, [], ◌∷◌, ◌≡◌, refl, ℕ, suc, ◌+◌, ◌^◌, ◌<◌, length}
use Rattle.std.proofs.Math.Logic.{∥∥₁_map}
use Rattle.std.proofs.Common.{sym, arith}
use seplogic.Ra.Ura.{Ura}
use base.Fraction.{full_share}
use mir.Syntax.{w8, named}
use base.Fml.{Fml, GName, Incl-refl, flent}
use ghost.Rules.{Toks}
use base.Logic.{SProp, ent, sep, ex, emp, id⊢, via, emp∗, comm∗, mono∗, fst∗}
use prog.AdequacyRun.{start_mem}
use prog.Memory.{Memory}
use prog.Model.{Model, AllFit}
use prog.Wp.{Heap, run}
use types.Logic.{Logic, sem, lfts}
use types.Kit.{‵, raw, some, later, ◌⊛◌, ◌$◌, !, qed, move, keep, use1, use2, split, join, pick, rewrite, feq_i, fjoin, frame, show, await, updating, done}
use types.Kit.{now as at_once}
use types.SemTy.{cells}
use types.Share.{arr_parts}
use types.Tokens.{lft_new}
use contract.Adequate.{Satisfies, sat_weaken, sat_⇛, sat_ex∗, start_Satisfies}
use Rattle.std.specs.Borrow.{u8}
use denote.Lend.{lends_slice, lends_shr_slice, Held}
use denote.Memory.{mem, shares}
use denote.Plain.{uint_in}
use denote.Signature.{Slot}
use denote.Slice.{ShrSlice, MutSlice, slice_val, Room}
use denote.Steps.{nothing}
use denote.Triple.Entry.{on_entry}
use borrow.Fn.World.{w₀}
use borrow.Rule.Slice.Shared.{parts-cells}
use borrow.Table.Copies.{c_rf}
use borrow.Table.Referent.{f_int}
use Rattle.laws.specs.Bytes.{Bytes}
use Rattle.calls.specs.Call.{Call, SliceAndBuffer, shared, buffer, next, lent}

module _ {M : Type 1} {𝓤 : Ura M} (𝓛 : Logic 𝓤) where
  open 𝓛 use {H}

  run_cells : (l : List ℕ) (b o : ℕ) → ent 𝓤 (run 𝓤 H full_share w8 b o l) (sem 𝓛 (cells (mem u8) l b o))
  run_cells [] b o = id⊢ 𝓤 (emp 𝓤)
  run_cells (x ∷ l) b o = mono∗ 𝓤 (uint_in 𝓛 full_share w8 x b o) (run_cells l b (o + 1))

  module _ (result : Slot 2) (l m : List ℕ) where
    -- the two lifetimes and the name of the buffer
    abbrev Choice : Type 0
    Choice = ℕ × ℕ × GName

    abbrev entry : Choice → SProp 𝓤
    entry c =
        on_entry 𝓛 (SliceAndBuffer result) (c.0 ∷ [], (c.1 ∷ [], tt)) (full_share, (full_share, tt))
        (record { ref_ptr = (0, 0); now = l }, (record { ref_ptr = (1, 0); ghost_name = c.2; now = m }, tt))
        (slice_val (0, 0) (length l) ∷ [], (slice_val (1, 0) (length m) ∷ [], tt))

    abbrev slice : ℕ → Fml
    slice α = (ShrSlice (named 0) (α ∷ []) u8).own_val (record { ref_ptr = (0, 0); now = l }) (slice_val (0, 0) (length l) ∷ [])

    -- what the slice's lender keeps
    abbrev kept : ℕ → Fml
    kept α = flent (α ∷ []) ((arr_parts (shares u8) (length l)).part full_share l 0 0)

    abbrev filled : ℕ → GName → Fml
    filled β δ = (MutSlice (named 1) (β ∷ []) u8).own_val (record { ref_ptr = (1, 0); ghost_name = δ; now = m }) (slice_val (1, 0) (length m) ∷ [])

    abbrev whole : ℕ → Toks
    whole α = (α ∷ [], full_share) ∷ []

    lends : Room u8 (length l) → Room u8 (length m) → ent 𝓤 (sep 𝓤 (run 𝓤 H full_share w8 0 0 l) (run 𝓤 H full_share w8 1 0 m)) (H.⇛ (ex 𝓤 entry))
    lends first second =
        qed 𝓛 (raw (run 𝓤 H full_share w8 0 0 l) ∷ raw (run 𝓤 H full_share w8 1 0 m) ∷ []) {P = H.⇛ (ex 𝓤 entry)} (
        updating ! $ use1 𝓛 (‵ (cells (mem u8) l 0 0)) (run_cells l 0 0) $ rewrite ! 0 (λ (F : Fml). ‵ F) (sym (parts-cells u8 full_share l 0 0)) refl $
        feq_i ! ℕ (length l) (length l) refl $ fjoin ! $ lft_new ! tt (λ α. move ! (1 ∷ 0 ∷ []) $
        -- [the bytes; their lifetime's token; the run of m]
        use2 𝓛 (later ((‵ (slice α) ⊛ ‵ (kept α)) ⊛ raw (lfts 𝓛 (whole α))))
        (lends_shr_slice 𝓛 u8 (named 0) (α ∷ []) full_share l 0 0 first (α ∷ []) (((c_rf (f_int w8)).copied 𝓛).shares full_share (α ∷ [])) (whole α)
        (Incl-refl (α ∷ [])) (Incl-refl (α ∷ []))) $ await ! tt $ split ! $ split ! $
        -- [the slice; what its lender keeps; its token; the run of m]
        move ! (3 ∷ []) $ use1 𝓛 (‵ (cells (mem u8) m 1 0)) (run_cells m 1 0) $ lft_new ! tt (λ β. move ! (1 ∷ []) $
        use1 𝓛 (later (some (λ (δ : GName). ‵ (filled β δ) ⊛ ‵ (flent (β ∷ []) (Held u8 (length m) 1 0 δ)))))
        (lends_slice 𝓛 u8 (named 1) (β ∷ []) m 1 0 second) $ await ! tt $ pick ! (λ δ. split ! $
        -- [the buffer; what its lender keeps; its token; the slice; what its lender keeps; its token]
        at_once ! $ show ! entry (α, β, δ) $ keep ! (5 ∷ 2 ∷ 3 ∷ 0 ∷ []) $
        nothing ! $ move ! (2 ∷ 0 ∷ []) $ join ! $ move ! (1 ∷ 0 ∷ []) $ join ! $ frame ! $ frame ! $ frame ! $ done !))))

-- ---- at the closed model, from the memory with which a run begins

abbrev 𝓤₀ : Ura w₀.M
𝓤₀ = w₀.𝓤

abbrev H₀ : Heap 𝓤₀
H₀ = w₀.𝓛.H

abbrev 𝓜₀ : Model 𝓤₀ H₀
𝓜₀ = w₀.𝓜

abbrev entered : (result : Slot 2) (l m : List ℕ) → ℕ × ℕ × GName → SProp 𝓤₀
entered = entry w₀.𝓛

fitting : (l : List ℕ) → Bytes l → AllFit w8 l
fitting [] h = tt
fitting (b ∷ l) h = (record { fits = h 0 }, fitting l (λ i. h (suc i)))

pub lendable : (result : Slot 2) (l m : List ℕ) → Bytes l → Bytes m → length l < 2 ^ 63 → length m < 2 ^ 63
    → ∥ ((call : Call (SliceAndBuffer result)) × (lent call (shared 0 tt) ≡ l) × (lent call (next (buffer 1 tt)) ≡ m)) ∥₁
unfolding Satisfies
lendable result l m bytes bytes' short short' =
    ∥∥₁_map (sat_ex∗ 𝓤₀ H₀ 𝓜₀ σ (entered result l m) (emp 𝓤₀) (sat_⇛ 𝓤₀ H₀ 𝓜₀ σ (ex 𝓤₀ (entered result l m)) (emp 𝓤₀) lent_out))
    (λ t. (
      record {
        model = w₀;
        lifetimes = (t.0.0 ∷ [], (t.0.1 ∷ [], tt));
        arguments = (record { ref_ptr = (0, 0); now = l }, (record { ref_ptr = (1, 0); ghost_name = t.0.2; now = m }, tt));
        held = ∣ (
          σ,
          (full_share, (full_share, tt)),
          (slice_val (0, 0) (length l) ∷ [], (slice_val (1, 0) (length m) ∷ [], tt)),
          sat_weaken 𝓤₀ H₀ 𝓜₀ σ (fst∗ 𝓤₀ (entered result l m t.0) (emp 𝓤₀)) t.1,
        ) ∣₁;
      },
      refl,
      refl,
    ))
  where
    σ : Memory
    σ = start_mem l m

    lent_out : Satisfies 𝓤₀ H₀ 𝓜₀ σ (sep 𝓤₀ (H₀.⇛ (ex 𝓤₀ (entered result l m))) (emp 𝓤₀))
    lent_out =
        sat_weaken 𝓤₀ H₀ 𝓜₀ σ
        (via 𝓤₀ (H₀.⇛ (ex 𝓤₀ (entered result l m)))
        (lends w₀.𝓛 result l m (omega arith, omega arith) (omega arith, omega arith))
        (via 𝓤₀ (sep 𝓤₀ (emp 𝓤₀) (H₀.⇛ (ex 𝓤₀ (entered result l m)))) (emp∗ 𝓤₀ (H₀.⇛ (ex 𝓤₀ (entered result l m))))
        (comm∗ 𝓤₀ (emp 𝓤₀) (H₀.⇛ (ex 𝓤₀ (entered result l m))))))
        (start_Satisfies 𝓤₀ H₀ 𝓜₀ l m (fitting l bytes) (fitting m bytes'))
