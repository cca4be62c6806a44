-- A law for each return of a load.
use Rattle.std.specs.Prelude.{◌≡◌, length, Err, Ok}
use Rattle.std.proofs.Common.{sym, ◌∙◌}
use mathlib.Core.List.{List}
use Prim.Native.Nat.{ℕ}
use Rattle.std.proofs.Math.Nat.{sub-zero}
use Rattle.std.proofs.Math.ListN.{take}
use Rattle.refusals.specs.declared.Refusal.{Refusal}
use Rattle.refusals.specs.Answers.{Verdict, Filled}
use Rattle.refusals.specs.Refusals.{result, checked, Fills}
use Rattle.refusals.specs.RefusalsLaws.{refused_of, result_of}
use Rattle.hextext.specs.Text.{read_text}
use Rattle.panel.specs.Verdict.{verdict_of}
use Rattle.panel.specs.Load.{answered, kept, Keeps, load_text}

module _ (level : ℕ) (text before after : List ℕ) (told : Filled) (f : Fills (read_text (length before) text) before told after) where
  pub text_refused : (r : Refusal) (last : Filled) → told ≡ Err r → last ≡ Err r → Fills (load_text level (length before) text) before last after
  unfolding load_text
  text_refused r last e d = let o = refused_of (read_text (length before) text) before after told f r e in rw (o, d) (rw (o, e) at f)

  pub image_judged : (n : ℕ) (last : Filled) (final : List ℕ) → told ≡ Ok n → length after ≡ length before → Keeps level n after last final
      → Fills (load_text level (length before) text) before last final
  unfolding load_text
  image_judged n last final e l k = rw o (fills (verdict_of level image) k.answers k.holds)
    where
      image : List ℕ
      image = take n after

      o : read_text (length before) text ≡ result image
      o = result_of (read_text (length before) text) before after told f n e

      read : Fills (result image) before told after
      read = rw o at f

      fills : (v : Verdict) → last ≡ answered v n → final ≡ kept v after → Fills (checked v image) before last final
      fills (Ok tt) a b = record { answers = a ∙ sym e ∙ read.answers; holds = b ∙ read.holds }
      fills (Err r) a b = record { answers = a; holds = b ∙ rw (sub-zero (length after), l) }
