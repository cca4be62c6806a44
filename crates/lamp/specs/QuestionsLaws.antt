-- What a panel is asked: a law for each way out.
use Rattle.std.specs.Prelude.{◌≡◌, ◌≢◌}
use borrow.Author.Tests.{eq-eqb, ne_eqb}
use Rattle.refusals.specs.Refusals.{refusal}
use Rattle.lamp.specs.declared.Panel.{Panel}
use Rattle.lamp.specs.declared.questions.LoadState.TheVariants.{UnderWay, Accepted, Refused}
use Rattle.lamp.specs.Panel.{at_line, at_end_record, at_image, size_of}
use Rattle.lamp.specs.Questions.{load_state}

-- ---- how the last load stands

module _ (panel : Panel) where
  pub state_accepted : panel.stage ≡ at_image → Accepted (size_of panel) ≡ load_state panel
  unfolding load_state
  state_accepted e = rw (eq-eqb panel.stage at_image e)

  module _ (i : panel.stage ≡ at_image → ⊥) where
    pub state_at_line : panel.stage ≡ at_line → UnderWay ≡ load_state panel
    unfolding load_state
    state_at_line e = rw (ne_eqb panel.stage at_image i, eq-eqb panel.stage at_line e)

    module _ (l : panel.stage ≡ at_line → ⊥) where
      pub state_at_end : panel.stage ≡ at_end_record → UnderWay ≡ load_state panel
      unfolding load_state
      state_at_end e = rw (ne_eqb panel.stage at_image i, ne_eqb panel.stage at_line l, eq-eqb panel.stage at_end_record e)

      module _ (r : panel.stage ≡ at_end_record → ⊥) where
        pub state_made_up : panel.size_or_number ≡ 0 → Refused (refusal 5 0) ≡ load_state panel
        unfolding load_state
        state_made_up z =
            rw (ne_eqb panel.stage at_image i, ne_eqb panel.stage at_line l, ne_eqb panel.stage at_end_record r, eq-eqb panel.size_or_number 0 z)

        pub state_refused : (panel.size_or_number ≢ 0) → Refused (refusal panel.size_or_number panel.lines_or_detail) ≡ load_state panel
        unfolding load_state
        state_refused z =
            rw (ne_eqb panel.stage at_image i, ne_eqb panel.stage at_line l, ne_eqb panel.stage at_end_record r, ne_eqb panel.size_or_number 0 z)
