-- From a supplier's sections to a reading: build, write, load, find, read.
use Rattle.std.specs.Prelude.{List, ◌++◌, ◌≡◌, refl, ℕ, ◌-◌, ◌≤◌, length, take, replicate, Ok}
use Rattle.std.proofs.Math.Option.{some}
use Rattle.std.proofs.Common.{sym, ap, ◌∙◌, arith, take_at}
use Rattle.paper.specs.Manual.{ShowsByManual}
use Rattle.laws.specs.Bytes.{Bytes}
use Rattle.laws.specs.Cases.{split}
use Rattle.refusals.specs.Answers.{Filled}
use Rattle.refusals.specs.Refusals.{result, Fills}
use Rattle.refusals.specs.RefusalsLaws.{result_of}
use Rattle.hextext.specs.Text.{read_text}
use Rattle.hextext.specs.Written.{write_image}
use Rattle.hexformat.proofs.WritingLaws.{written_exactly as text-exactly}
use Rattle.hexformat.proofs.RoundTrip.{written_reads_back}
use Rattle.image.specs.Sections.{Section, bodies_of}
use Rattle.image.specs.Find.{found}
use Rattle.builder.specs.Build.{build_image}
use Rattle.builder.specs.Lines.{lines_of}
use Rattle.builder.specs.BuildLaws.{sections_again}
use Rattle.builder.specs.Built.{built_found, built_bytes}
use Rattle.reading.specs.declared.Counts.{Counts}
use Rattle.reading.specs.declared.Reading.{Reading}
use Rattle.panel.specs.Verdict.{verdict_of}
use Rattle.panel.specs.Reading.{reading_of}
use Rattle.panel.specs.Load.{load_text}
use Rattle.agreement.specs.WriterAgrees.{written_exactly}
use Rattle.agreement.specs.OnPaper.{on_paper}
use Rattle.agreement.proofs.ManualAgrees.{shows_by_manual}
use Rattle.promises.specs.LaidOutAnew.{Among, EachOnce}
use Rattle.promises.specs.AnewBuilt.{among_found}

-- The buffers of the three calls are x before and x' after; n and m are the lengths that builder and writer answer.
module _ (level : ℕ) (ss : List Section) (once : EachOnce ss) (image image' text text' loaded loaded' : List ℕ) (n m : ℕ) (answer : Filled)
    -- the bodies are bytes, as all that is lent to the builder,
    (bytes : Bytes (bodies_of ss))
    -- the builder makes an image of the sections,
    (built : Fills (build_image (length image) (lines_of ss) (bodies_of ss)) image (Ok n) image')
    -- which a panel of the level accepts,
    (accepted : verdict_of level (take n image') ≡ Ok tt)
    -- the writer makes a text of it,
    (written : Fills (write_image (length text) (take n image')) text (Ok m) text')
    -- and the panel, whose buffer has room for it, is given that text
    (room : n ≤ length loaded) (given : Fills (load_text level (length loaded) (take m text')) loaded answer loaded') where
  abbrev made : List ℕ
  made = take n image'

  build_is : build_image (length image) (lines_of ss) (bodies_of ss) ≡ result made
  build_is = result_of _ image image' (Ok n) built n refl

  long : length made ≡ n
  long = let e : Ok n ≡ Ok (length made) = rw build_is at built.answers in sym (cc e)

  made_bytes : Bytes made
  made_bytes = built_bytes (length image) (lines_of ss) (bodies_of ss) made build_is bytes

  write_is : write_image (length text) made ≡ result (take m text')
  write_is = result_of _ text text' (Ok m) written m refl

  read_is : read_text (length loaded) (take m text') ≡ result made
  read_is =
      let said = (written_exactly (length text) made (take m text') made_bytes).0 write_is in
      let small : length made ≤ 4096 = split (length made) 4096 (λ h. h) (λ h. absurd (said.0.0 0 (refl, h))) in
      rw ((text-exactly made (take m text') made_bytes small).1 said.1) (written_reads_back made made_bytes (length loaded) small (omega (arith, long)))

  load_is : load_text level (length loaded) (take m text') ≡ result made
  unfolding load_text
  load_is = rw (read_is, accepted)

  -- The panel loads it,
  pub sections_loads : answer ≡ Ok n
  sections_loads = rw load_is at given.answers ∙ ap Ok long

  -- its buffer holds that image, and zeros after it,
  pub sections_holds : loaded' ≡ made ++ replicate (length loaded - n) 0
  sections_holds = rw (load_is, long) at given.holds

  same : take n loaded' ≡ made
  same = rw sections_holds (take_at made (replicate (length loaded - n) 0) n long)

  -- every section is found in it as it was given,
  pub sections_finds : (kind : ℕ) (body : List ℕ) → Among kind body ss → found (take n loaded') kind ≡ some body
  sections_finds kind body among =
      rw same (built_found (length image) (lines_of ss) (bodies_of ss) made build_is kind ∙ rw (sections_again ss) (among_found kind body ss once among))

  -- and for all counts what is shown is the manual's polynomial of the coefficients in it.
  pub sections_reads : (counts : Counts) (reading : Reading) → reading_of level (take n loaded') counts ≡ Ok reading
      → ShowsByManual made (on_paper counts) reading.pressure reading.temperature reading.unit reading.mark
  sections_reads counts reading e = shows_by_manual level made counts reading (rw same at e)
