-- What loading accepts: the texts that 01's rules write for a well formed codelist, and nothing else. A statement; the proof is in
-- proofs/Accepted.antt.
use Rattle.std.specs.Prelude.{ℕ, List, ◌↔◌, ◌⊎◌, ◌≡◌}
use Rattle.codelist.specs.declared.Codelist.{Codelist}
use Rattle.codelist.specs.declared.Year.TheVariants.{Y2016, Y2014}
use Rattle.codelist.specs.Codelist.{WellFormed}
use Rattle.codelist.specs.Write.{text_with, IsText, year2016, text_of}
use Rattle.codelist.specs.Load.{accepted, load_of}

pub record AcceptedExactly : Type 0 where
  pub where-written : (s : List ℕ) (c : Codelist) → (load_of s ≡ accepted c) ↔ (WellFormed c × IsText c s)
  -- no text has two codelists
  pub one-codelist : (s : List ℕ) (c d : Codelist) → WellFormed c → WellFormed d → IsText c s → IsText d s → c ≡ d
  -- a codelist of 2014 has one text, and one of 2016 has two: its year is absent, or named
  pub one-text : (s : List ℕ) (c : Codelist) → c.year ≡ Y2014 → IsText c s → s ≡ text_of c
  pub two-texts : (s : List ℕ) (c : Codelist) → c.year ≡ Y2016 → IsText c s ↔ ((s ≡ text_of c) ⊎ (s ≡ text_with year2016 c))
  pub two-differ : (c : Codelist) → c.year ≡ Y2016 → text_of c ≡ text_with year2016 c → ⊥
