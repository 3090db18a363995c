-- `put_range` meets its contract: the bytes of the two ends, one behind the other.
use Rattle.std.proofs.Common.{◌≡◌, ap, ◌∙◌, to_z-of_z, w64, SFits, rules}
use Rattle.motmotdivan.specs.Doubles.{double_of}
use Rattle.motmotdivan.proofs.Results.{put_two, range-put}
use Rattle.motmotdivan.proofs.record.put_range.Goals as goal

pub returns : goal.returns
returns c =
    let a = c.args in
    -- the ends fit, read back from their bits
    let f : SFits w64 a.r.low = search rules in
    let g : SFits w64 a.r.high = search rules in
    let low : c.copy_from_slice.new.self ≡ double_of a.r.low = c.copy_from_slice.ensures.after ∙ c.bytes_of.ensures ∙ ap double_of (to_z-of_z f) in
    let high : c.copy_from_slice-2.new.self ≡ double_of a.r.high = c.copy_from_slice-2.ensures.after ∙ c.bytes_of-2.ensures ∙ ap double_of (to_z-of_z g) in
    put_two a.s.now a.r.low a.r.high c.requires low high ∙ range-put a.r
