use Prim.Native.Nat.{◌+◌, ◌<◌}
use mathlib.Core.Path.{◌≡◌, ◌∙◌, refl, sym}
use mathlib.Core.Bool.{true}
use native.Mathlib.Omega.{arith}
use lib.ListN.{length}
use Rattle.find.specs.Matching.{occurs_at}
use Rattle.find.specs.Searching.{Absent}
use Rattle.replace.proofs.Columns.{content-alone}
use Rattle.redact_blocks.proofs.Blanks.{none-blanked, match-ends, match-within, match-room, more-match, byte-away, bytes-within, byte-room, more_bytes}
use Rattle.redact_blocks.proofs.blank_bytes.Goals as goal
use Rattle.redact_blocks.proofs.blank_bytes.Goals.{Then-stands, Else-stands}

-- the literal is at the turn's byte
stands : (c : Then-stands) → occurs_at c.args.text.now c.args.literal.now c.loop-i.i ≡ true
stands c = sym c.stands.ensures ∙ c.if-stands.true

-- there is a byte, where the literal does not stand
inside : (c : Else-stands) → c.loop-i.i < length c.args.text.now
inside c = omega (arith, c.loop-i-test.true, c.requires.1)

away : (c : Else-stands) → Absent c.args.text.now c.args.literal.now c.loop-i.i (c.loop-i.i + 1)
away c = byte-away c.requires.0 c.loop-i.invariant (inside c) (sym c.stands.ensures ∙ c.if-stands.false)

pub loop-i-init : goal.loop-i-init
loop-i-init c = none-blanked c.requires.0.inside refl

pub stands-requires : goal.stands-requires
stands-requires c = (c.requires.0.some, c.loop-i.invariant.inside)

pub overflow_add-i : goal.overflow_add-i
overflow_add-i c = let r = c.requires.0 in omega (arith, match-ends r c.loop-i.invariant (stands c), r.short)

pub fill_exact-requires : goal.fill_exact-requires
fill_exact-requires c =
    match-room c.requires.0 c.loop-i.invariant (stands (goal.at.fill_exact-requires c).Then-stands) (omega arith) (omega arith)

pub overflow_add-at : goal.overflow_add-at
overflow_add-at c =
    let r = c.requires.0 in
    omega (arith, match-within r c.loop-i.invariant (stands (goal.at.overflow_add-at c).Then-stands), r.within)

pub loop-i-smaller-then-stands : goal.loop-i-smaller-then-stands
loop-i-smaller-then-stands c =
    let r = c.requires.0 in
    omega (arith, match-ends r c.loop-i.invariant (stands (goal.at.loop-i-smaller-then-stands c).Then-stands), r.some)

pub loop-i-preserved-then-stands : goal.loop-i-preserved-then-stands
loop-i-preserved-then-stands c =
    more-match c.requires.0 c.loop-i.invariant (stands (goal.at.loop-i-preserved-then-stands c).Then-stands) (content-alone _) (omega arith) c.fill_exact.ensures refl refl

pub lay_byte-requires : goal.lay_byte-requires
lay_byte-requires c =
    byte-room c.requires.0 c.loop-i.invariant (inside (goal.at.lay_byte-requires c).Else-stands) (sym c.stands.ensures ∙ c.if-stands.false)

pub overflow_add-i-else-stands : goal.overflow_add-i-else-stands
overflow_add-i-else-stands c = omega (arith, c.requires.0.short, inside (goal.at.overflow_add-i-else-stands c).Else-stands)

pub overflow_add-at-else-stands : goal.overflow_add-at-else-stands
overflow_add-at-else-stands c =
    let r = c.requires.0 in
    omega (arith, bytes-within r c.loop-i.invariant 1 (away (goal.at.overflow_add-at-else-stands c).Else-stands), r.within)

pub loop-i-smaller : goal.loop-i-smaller
loop-i-smaller c = omega (arith, inside (goal.at.loop-i-smaller c).Else-stands)

pub loop-i-preserved : goal.loop-i-preserved
loop-i-preserved c =
    more_bytes c.requires.0 c.loop-i.invariant 1 (away (goal.at.loop-i-preserved c).Else-stands) (omega arith) c.lay_byte.ensures refl refl

pub shape_of-out : goal.shape_of-out
shape_of-out c = c.loop-i.invariant.text_on.same

pub shape_of-out_starts : goal.shape_of-out_starts
shape_of-out_starts c = c.loop-i.invariant.starts_on.same

pub shape_of-out_ends : goal.shape_of-out_ends
shape_of-out_ends c = c.loop-i.invariant.ends_on.same

pub returns : goal.returns
returns c = (c.loop-i.invariant, c.loop-i-test.false)
