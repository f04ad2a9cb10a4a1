-- UTF-8, then the first tab, then another one, then what is before it.
use mathlib.Core.Path.{◌≡◌, ◌∙◌, sym}
use mathlib.Core.Bool.{true}
use native.Mathlib.Omega.{arith}
use Rattle.utf8.specs.Formed.{well_formed}
use Rattle.name_lines.proofs.Tabs.{not-formed, no-tab, two-tabs, no-literal, good-line}
use Rattle.name_lines.proofs.judge_line.Goals as goal
use Rattle.name_lines.proofs.judge_line.Goals.{Else-not-well_formed}

-- past the first test the line is UTF-8
is_formed : (c : Else-not-well_formed) → well_formed c.args.line.now ≡ true
is_formed c = sym c.well_formed-2.ensures ∙ c.if-not-well_formed.false

pub returns-then-not-well_formed : goal.returns-then-not-well_formed
returns-then-not-well_formed c = not-formed _ (sym c.well_formed-2.ensures ∙ c.if-not-well_formed.true)

pub returns-then-line-tab : goal.returns-then-line-tab
returns-then-line-tab c =
    no-tab _ (is_formed (goal.at.returns-then-line-tab c).Else-not-well_formed) c.tab_at-tab.ensures c.if-line-tab.true

pub returns-then-tab_at-line : goal.returns-then-tab_at-line
returns-then-tab_at-line c =
    two-tabs _ (is_formed (goal.at.returns-then-tab_at-line c).Else-not-well_formed) c.tab_at-tab.ensures c.if-line-tab.false c.tab_at.ensures c.if-tab_at-line.true

pub returns-then-tab-eq0 : goal.returns-then-tab-eq0
returns-then-tab-eq0 c =
    no-literal _ (is_formed (goal.at.returns-then-tab-eq0 c).Else-not-well_formed) c.tab_at-tab.ensures c.if-line-tab.false c.tab_at.ensures c.if-tab_at-line.false (omega arith)

pub returns : goal.returns
returns c =
    good-line _ (is_formed (goal.at.returns c).Else-not-well_formed) c.tab_at-tab.ensures c.if-line-tab.false c.tab_at.ensures c.if-tab_at-line.false (omega arith)
