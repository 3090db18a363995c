-- What is promised of the program `formula`: proved in proofs/Printed.antt. That `answer` gives `answer_of` is its contract's to say.
use Rattle.std.specs.Prelude.{ℕ, ◌≤◌, ◌<◌, true, false, cond, List, ◌≡◌, length, take}
use Rattle.codelist.specs.declared.Codelist.{Codelist}
use Rattle.codelist.specs.declared.Numeral.{Numeral}
use Rattle.codelist.specs.declared.Refusal as codelist
use Rattle.codelist.specs.Load as load
use Rattle.codelist.specs.Read.{good, bad}
use Rattle.writer.specs.Texts.{refused_text}
use Rattle.formulas.specs.declared.Refusal.{Refusal}
use Rattle.formulas.specs.Grammar.{longest}
use Rattle.formulas.specs.Load.{refused, number_of, place_of, formula_of}
use Rattle.formulas.specs.Exactly.{Becomes}
use Rattle.formulas.specs.Answer.{count_line, count_in, is_ended, text_in, answer_of, in_bytes}

-- The input s has a first line with the count k, and what follows it is the text t, ended by byte 10
pub record Input (s : List ℕ) (k : ℕ) (t : List ℕ) : Type 0 where
  pub numeral : Numeral
  pub rest : List ℕ
  pub first : count_line s ≡ good numeral rest
  pub count : k ≡ count_in numeral
  pub ended : is_ended rest ≡ true
  pub text : t ≡ text_in rest

pub record FormulaPrints : Type 0 where
  -- a first line of another form is 2 at 1
  pub no-count : (s : List ℕ) → count_line s ≡ bad → answer_of s ≡ refused_text 2 1
  -- then a text over 1,024 bytes is 19 at 1025, with its byte 10 or without
  pub too_long : (s : List ℕ) (w : Numeral) (u : List ℕ) → count_line s ≡ good w u → longest < length (cond (is_ended u) (text_in u) u)
      → answer_of s ≡ refused_text 19 1025
  -- then a missing byte 10 is 2 at 2
  pub no_end : (s : List ℕ) (w : Numeral) (u : List ℕ) → count_line s ≡ good w u → is_ended u ≡ false → length u ≤ longest
      → answer_of s ≡ refused_text 2 2
  -- and else it is what the text becomes: 19 or 20, the refusal of its sheet, or the sheet itself, byte for byte
  pub not-converted : (s t : List ℕ) (k : ℕ) (r : Refusal) → Input s k t → formula_of t k ≡ refused r → answer_of s ≡ refused_text (number_of r) (place_of r)
  pub not-loaded : (s t : List ℕ) (k : ℕ) (x : List ℕ) (r : codelist.Refusal) → Input s k t → Becomes t k x → load.load_of x ≡ load.refused r
      → answer_of s ≡ refused_text (load.number_of r) (load.place_of r)
  pub sheet : (s t : List ℕ) (k : ℕ) (x : List ℕ) (c : Codelist) → Input s k t → Becomes t k x → load.load_of x ≡ load.accepted c → answer_of s ≡ x
  -- the first `len` bytes of what `answer` gives, which the program writes, are the whole output
  pub whole : (s : List ℕ) → take (in_bytes (answer_of s)).at (in_bytes (answer_of s)).bytes ≡ answer_of s
  -- the program reads 2,048 bytes at most: what follows them changes nothing
  pub reads-enough : (s : List ℕ) → answer_of (take 2048 s) ≡ answer_of s
