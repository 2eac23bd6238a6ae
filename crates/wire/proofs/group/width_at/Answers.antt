-- `wire::group::width_at` meets its contract: its answers are the cases of a group, whose head has as many bytes as the prefix says.
use native.Mathlib.Nat.{mul-le-mul_right}
use native.Mathlib.Omega.{arith}
use Rattle.paper.proofs.Places.{group_short, group_cut, group_narrow, group_wide}
use Rattle.wire.proofs.Prefixes.{prefix_some}
use borrow.Author.Rules.{rules}
use Rattle.wire.proofs.group.width_at.Goals as goal

pub returns-then-available-before : goal.returns-then-available-before
returns-then-available-before c =
    let a = c.args in
    rw c.len-before.ensures.0 (group_short a.s.now a.at _ a.count _ c.available_at-available.ensures (omega arith))

pub head-w-requires : goal.head-w-requires
head-w-requires c = omega (arith, prefix_some c.args.prefix)

pub overflow_mul-needed : goal.overflow_mul-needed
overflow_mul-needed c =
    let few = mul-le-mul_right c.head-w.result c.requires in
    omega arith

pub overflow_add-needed : goal.overflow_add-needed
overflow_add-needed c =
    let few = mul-le-mul_right c.head-w.result c.requires in
    omega arith

pub returns-then-available-needed : goal.returns-then-available-needed
returns-then-available-needed c =
    let a = c.args in
    rw c.len-before.ensures.0
    (group_cut a.s.now a.at _ a.count _ c.head-w.ensures.0 _ c.available_at-available.ensures (omega arith) (omega arith))

pub returns-then-w-lt1 : goal.returns-then-w-lt1
returns-then-w-lt1 c =
    let a = c.args in
    group_narrow a.s.now a.at _ a.count _ c.head-w.ensures.0 (omega arith) (search rules)

pub returns-then-w-gt16 : goal.returns-then-w-gt16
returns-then-w-gt16 c =
    let a = c.args in
    group_wide a.s.now a.at _ a.count _ c.head-w.ensures.0 (omega arith) (search rules)
