-- `posting::Board::post` meets its contract.
-- Assumes nothing.
use Rattle.std.proofs.Common.{rules, arith, ◌≡◌, ◌+◌, length, take, ◌∷◌, slice_set, ltb}
use Rattle.std.proofs.lemmas.Grind.{common_steps}
use Rattle.laws.specs.Choice.{pick}
use Rattle.laws.proofs.Places.{length-mapped}
use Rattle.posting.specs.declared.Row.{Row}
use Rattle.posting.specs.Posting.{post_of}
use Rattle.posting.proofs.Rows.{turned}
use Rattle.posting.proofs.Board.post.Goals as goal

pub returns : goal.returns
unfolding post_of
returns c =
    let all : length c.args.self.at ≡ 8 = search (rules, length-mapped) in
    let first : Row = record { shown = c.args.x } in
    let at : slice_set c.rotate_right.new.self 0 first ≡ first ∷ take 7 c.args.self.at = rw (c.rotate_right.ensures.after, all) (turned c.args.self.at first all) in
    let count : c.min.result + 1 ≡ pick (ltb c.args.self.count 8) (c.args.self.count + 1) 8 = grind (arith, common_steps) in
    rw (at, count)
