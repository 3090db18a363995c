use mathlib.Core.Path.{refl, sym, ap, ◌∙◌}
use mathlib.Core.List.{List}
use lib.IntN.{ℤ, pos}
use lib.ListN.{length, get_or}
use Rattle.bounds.specs.Table.{slopes_from}
use Rattle.bounds.proofs.Pairs.{put-long, slope-set, slope-apart}
use Rattle.bounds.proofs.table.Table.put_slope.Goals as goal

pub returns : goal.returns
returns c =
    let numbers = c.args.self.now.numbers in
    let long = sym (put-long numbers _ c.args.r) ∙ sym (ap length c.put.ensures) ∙ c.put.array_long.0 in
    record {
      slopes = ap (λ (l : List ℤ). slopes_from l c.args.k) c.put.ensures
          ∙ slope-set numbers c.args.k c.args.a c.args.r c.requires.k_bound c.requires.a_bound long;
      beside = record {
        numbers = λ m o. ap (λ (l : List ℤ). get_or l m (pos 0)) c.put.ensures ∙ slope-apart numbers c.args.k c.args.a c.args.r c.requires.a_bound m o;
        sets = refl;
      };
    }
