-- `holds_codelist` meets its contract: bytes with a head hold a codelist where their operations are well formed.
use Prim.Native.Nat.{ℕ}
use mathlib.Core.Bool.{Bool, false}
use mathlib.Core.List.{List}
use mathlib.Core.Path.{◌≡◌, sym, ◌∙◌}
use borrow.Author.Rules.{rules}
use Rattle.std.specs.Option.{MatchOption}
use Rattle.std.specs.declared.option.Option.{Option}
use Rattle.std.specs.declared.option.Option.TheVariants.{Some, None}
use Rattle.encoding.specs.declared.Front.{Front}
use Rattle.encoding.specs.Decode.{head_of, are_ops, holds_codelist}
use Rattle.encoding.proofs.Entries.{held-is, none-held}
use Rattle.encoding.proofs.holds_codelist.Goals as goal

held : (b : List ℕ) (o : Option Front) (r : Bool) {P : Type 0} {Q : Front → Type 0} → o ≡ head_of b → MatchOption o P Q
    → (P → r ≡ false) → ((h : Front) → Q h → r ≡ are_ops b h.factors 0 h.count) → r ≡ holds_codelist b
held b (Some h) r p q f g = g h q ∙ sym (held-is b h (sym p))
held b None r p q f g = f q ∙ sym (none-held b (sym p))

pub returns : goal.returns
returns c = held c.args.state.now c.head.result _ c.head.ensures c.is_some_and.ensures (λ p. p) (λ h q. search rules)
