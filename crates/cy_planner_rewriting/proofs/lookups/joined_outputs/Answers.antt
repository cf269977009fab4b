use Rattle.std.proofs.Common.{arith}
use Rattle.cy_planner_rewriting.proofs.Sides.{as_many_sides}
use Rattle.cy_planner_rewriting.proofs.lookups.joined_outputs.Goals as goal

pub both_columns-requires : goal.both_columns-requires
both_columns-requires c = let all = as_many_sides c.args.left c.args.lookups.now in let count = c.requires.count in let room = c.requires.room in omega (arith, all, count, room)

pub overflow_add-left : goal.overflow_add-left
overflow_add-left c = let all = as_many_sides c.args.left c.args.lookups.now in let count = c.requires.count in let room = c.requires.room in omega (arith, all, count, room)

pub overflow_add-left-2 : goal.overflow_add-left-2
overflow_add-left-2 c = let all = as_many_sides c.args.left c.args.lookups.now in let count = c.requires.count in let room = c.requires.room in omega (arith, all, count, room)

pub add_places-requires-clause-right : goal.add_places-requires-clause-right
add_places-requires-clause-right c = let all = as_many_sides c.args.left c.args.lookups.now in let count = c.requires.count in let room = c.requires.room in omega (arith, all, count, room)
