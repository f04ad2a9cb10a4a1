-- Laws of `resultFrom`, what a column gives from a byte on: past bytes at which the literal does not stand, past a match, at
-- the end; and of what is laid on by them.
use Prim.Native.Nat.{ℕ, suc, ◌+◌, ◌-◌, ◌≤◌, ◌<◌}
use mathlib.Core.Path.{◌≡◌, ◌∙◌, ap, refl, sym}
use mathlib.Core.Bool.{true, false, cond}
use mathlib.Core.List.{List, [], ◌++◌, append_assoc, append-nil}
use native.Mathlib.Omega.{arith}
use lib.Dec.{ltb}
use lib.ListN.{length, get_or, take, length-append, length-replicate, take-append-drop}
use borrow.Author.Tests.{le-ltb, lt-ltb}
use Rattle.buffers.specs.Splice.{part, overlay}
use Rattle.buffers.specs.Over.{Over}
use Rattle.buffers.proofs.Cases.{le-or-lt, true-or-false}
use Rattle.buffers.proofs.Splice.{length_part, part-append}
use Rattle.note.specs.Starting.{starting}
use Rattle.note.proofs.Starting.{length-starting-starts, length-starting-ends}
use Rattle.pattern.specs.declared.Place.{Place}
use Rattle.find.specs.Matching.{occurs_at, first_from, FirstMatch, between, matches_from}
use Rattle.find.specs.Searching.{Absent}
use Rattle.find.proofs.Occurs.{occurs-inside}
use Rattle.find.proofs.FirstFrom.{first-unique}
use Rattle.find.proofs.MatchesFrom.{Searched, first-there, matches-more, matches-end}
use Rattle.find.proofs.FoundPlaces.{between-some, between_none, covers-matches}
use Rattle.replace.specs.Replacing.{piece, laid, carried}
use Rattle.replace.specs.Sizes.{places_size}
use Rattle.replace.proofs.Sizes.{length-laid}
use Rattle.redact_blocks.specs.Keeping.{StretchRoom, Stretch, ContentRoom, ContentLaid}
use Rattle.redact_blocks.specs.Blanks.{result_from, Blankable, Onward, Blanked, Bounded, SearchBlockRoom, BlockPassed, AllBlanked}
use Rattle.redact_blocks.proofs.Keeping.{stretch-none}

-- the literal does not stand past the last position at which it fits
pub stands-not : (text literal : List ℕ) (p : ℕ) → 0 < length literal → length text - p < length literal → p ≤ length text → false ≡ occurs_at text literal p
stands-not text literal p some few most =
    true-or-false (occurs_at text literal p) (λ t. absurd (omega (arith, occurs-inside text literal p some t))) (λ f. sym f)

absent-step : {text literal : List ℕ} {i : ℕ} → i < length text → occurs_at text literal i ≡ false → Absent text literal i (i + 1)
absent-step {i = i} h f = record { onward = omega arith; most = omega arith; not_there = λ k a b. let is : k ≡ i = omega arith in rw is f }

module _ (fill : ℕ → List ℕ) (text literal xs : List ℕ) where
  laid-between : (a e : ℕ) (ps : List Place) → laid fill (between a e ++ ps) xs ≡ part xs a e ++ laid fill ps xs
  unfolding laid piece
  laid-between a e ps =
      le-or-lt e a
      (λ h. let none : e - a ≡ 0 = omega arith in rw (between_none h, none))
      (λ h. rw (between-some h))

  -- from a match at p on
  unfoldable behind : ℕ → List ℕ
  behind p = cond (ltb p (length text)) (fill (p + length literal) ++ result_from fill text literal xs (p + length literal)) []

  rest-laid : {i p : ℕ} → Searched text literal i p → result_from fill text literal xs i ≡ part xs i p ++ behind p
  unfolding laid piece result_from behind
  rest-laid {i} {p} s =
      le-or-lt (length text) p
      (λ h. rw (matches-end s h, le-ltb p (length text) h, ← append-nil (between i p)) (laid-between i p []))
      (λ h. rw (matches-more s h, lt-ltb p (length text) h) (laid-between i p _))

  module _ (some : 0 < length literal) where
    rest-passed : {i j : ℕ} → Absent text literal i j → result_from fill text literal xs i ≡ part xs i j ++ result_from fill text literal xs j
    rest-passed {i} {j} a =
        let p : ℕ = first_from text literal j in
        let s : Searched text literal j p = record { some = some; most = a.most; next = refl } in
        let f : FirstMatch text literal j p = first-there s in
        let first : FirstMatch text literal i p = record {
          from = omega (arith, a.onward, f.from);
          most = f.most;
          before = λ k l h. le-or-lt j k (λ past. f.before k past h) (λ below. a.not_there k l below);
          occurs = f.occurs;
        } in
        rest-laid (record { some = some; most = omega (arith, a.onward, a.most); next = first-unique first })
        ∙ rw (rest-laid s, ← part-append xs i j p a.onward f.from) (append_assoc (part xs i j) (part xs j p) (behind p))

    rest-matched : (i : ℕ) → occurs_at text literal i ≡ true → result_from fill text literal xs i ≡ fill (i + length literal) ++ result_from fill text literal xs (i + length literal)
    unfolding behind
    rest-matched i t =
        let inside = occurs-inside text literal i some t in
        let first : FirstMatch text literal i i = record { from = omega arith; most = omega arith; before = λ k l h. absurd (omega arith); occurs = λ h. t } in
        let none : i - i ≡ 0 = omega arith in
        rest-laid (record { some = some; most = omega arith; next = first-unique first })
        ∙ rw (none, lt-ltb i (length text) (omega arith))

    pub rest_ended : {i : ℕ} → i ≡ length text → result_from fill text literal xs i ≡ []
    unfolding result_from laid
    rest_ended {i} end =
        let s : Searched text literal i (first_from text literal i) = record { some = some; most = omega arith; next = refl } in
        let f = first-there s in
        rw (matches-end s (omega (arith, f.from)), between_none {a = i} {e = first_from text literal i} (omega (arith, f.most)))

  rest-size : (content_len : ℕ) {i : ℕ} {content : List ℕ} {at : ℕ} {out starts ends : List ℕ} → Blankable text literal content i at out starts ends
      → {j : ℕ} → j ≤ length text → length xs ≡ length text → ((e : ℕ) → length (fill e) ≡ content_len)
      → length (result_from fill text literal xs j) ≡ places_size content_len (matches_from text literal j)
  unfolding result_from
  rest-size content_len r {j} h long wides =
      length-laid text xs fill content_len j (matches_from text literal j) long wides
      (covers-matches text literal r.formed r.literal_formed (suc (length text)) j _ (omega arith) (record { some = r.some; most = h; next = refl }))

-- one column: nothing yet, and a run more
onward-none : {fill : ℕ → List ℕ} {text literal xs : List ℕ} {i at : ℕ} {d : List ℕ} → Onward fill text literal xs i at d i at d
onward-none = record { so_far = refl; beyond = refl; reach = refl; same = refl }

onward-run : {fill : ℕ → List ℕ} {text literal xs : List ℕ} {i at : ℕ} {d : List ℕ} {i₁ at₁ : ℕ} {d₁ : List ℕ} (run : List ℕ) {i₂ at₂ until : ℕ} {d₂ : List ℕ}
    → Onward fill text literal xs i at d i₁ at₁ d₁ → result_from fill text literal xs i₁ ≡ run ++ result_from fill text literal xs i₂
    → Over run d₁ at₁ until d₂ → until ≤ at + length (result_from fill text literal xs i) → at₂ ≡ at₁ + length run
    → Onward fill text literal xs i at d i₂ at₂ d₂
onward-run {fill} {text} {literal} {xs} {i} {at} {d} {i₁} {at₁} {d₁} run {i₂} {at₂} {until} {d₂} o is l below here =
    let long : length (result_from fill text literal xs i₁) ≡ length run + length (result_from fill text literal xs i₂) = ap length is ∙ length-append run (result_from fill text literal xs i₂) in
    record {
      so_far = rw here (rw l.front (append_assoc (take at₁ d₁) run (result_from fill text literal xs i₂) ∙ rw (← is) o.so_far));
      beyond = l.beyond _ (omega (arith, o.reach, long)) below ∙ o.beyond;
      reach = omega (arith, o.reach, long);
      same = l.same ∙ o.same;
    }

pub none-blanked : {text literal content : List ℕ} {i at : ℕ} {out starts ends : List ℕ} {at₁ : ℕ} → i ≤ length text → at₁ ≡ at → Blanked text literal content i at out starts ends i at₁ out starts ends
none-blanked h e = rw e (record { onward = omega arith; inside = h; text_on = onward-none; starts_on = onward-none; ends_on = onward-none })

module _ {text literal content : List ℕ} {i at : ℕ} {out starts ends : List ℕ} {i₁ at₁ : ℕ} {out₁ starts₁ ends₁ : List ℕ} (r : Blankable text literal content i at out starts ends) (b : Blanked text literal content i at out starts ends i₁ at₁ out₁ starts₁ ends₁) where
  text_size : {j : ℕ} → j ≤ length text → length (result_from (λ end. content) text literal text j) ≡ places_size (length content) (matches_from text literal j)
  text_size h = rest-size (λ end. content) text literal text (length content) r h refl (λ e. refl)

  starts_size : {j : ℕ} → j ≤ length text → length (result_from (carried (length content) (starting text).starts) text literal (starting text).starts j) ≡ places_size (length content) (matches_from text literal j)
  starts_size h = rest-size (carried (length content) (starting text).starts) text literal (starting text).starts (length content) r h (length-starting-starts text) (λ e. length-replicate (length content) _)

  ends_size : {j : ℕ} → j ≤ length text → length (result_from (carried (length content) (starting text).ends) text literal (starting text).ends j) ≡ places_size (length content) (matches_from text literal j)
  ends_size h = rest-size (carried (length content) (starting text).ends) text literal (starting text).ends (length content) r h (length-starting-ends text) (λ e. length-replicate (length content) _)

  -- what is laid and what is to come are the whole
  pub blanked-size : at₁ + places_size (length content) (matches_from text literal i₁) ≡ at + places_size (length content) (matches_from text literal i)
  blanked-size = omega (arith, b.text_on.reach, text_size b.inside, text_size r.inside)

  -- past bytes at which the literal does not stand
  module _ (k : ℕ) (a : Absent text literal i₁ (i₁ + k)) where
    pub bytes-within : at₁ + k ≤ at + places_size (length content) (matches_from text literal i)
    bytes-within =
        let long = ap length (rest-passed (λ end. content) text literal text r.some a) ∙ length-append (part text i₁ (i₁ + k)) (result_from (λ end. content) text literal text (i₁ + k)) in
        omega (arith, long, length_part text i₁ (i₁ + k) a.most, text_size b.inside, blanked-size)

    pub more_bytes : {until i₂ at₂ : ℕ} {out₂ starts₂ ends₂ : List ℕ} → until ≤ at + places_size (length content) (matches_from text literal i)
        → Stretch text i₁ (i₁ + k) out₁ starts₁ ends₁ at₁ until out₂ starts₂ ends₂ → i₂ ≡ i₁ + k → at₂ ≡ at₁ + k
        → Blanked text literal content i at out starts ends i₂ at₂ out₂ starts₂ ends₂
    more_bytes {i₂ = i₂} {at₂} {out₂} {starts₂} {ends₂} below s to here =
        let on : Blanked text literal content i at out starts ends (i₁ + k) at₂ out₂ starts₂ ends₂ = record {
          onward = omega (arith, b.onward);
          inside = a.most;
          text_on = onward-run (part text i₁ (i₁ + k)) b.text_on (rest-passed (λ end. content) text literal text r.some a) s.text_over (omega (arith, text_size r.inside)) (omega (arith, length_part text i₁ (i₁ + k) a.most));
          starts_on =
              onward-run (part (starting text).starts i₁ (i₁ + k)) b.starts_on
              (rest-passed (carried (length content) (starting text).starts) text literal (starting text).starts r.some a) s.starts_over
              (omega (arith, starts_size r.inside)) (omega (arith, length_part (starting text).starts i₁ (i₁ + k) (rw (length-starting-starts text) a.most)));
          ends_on =
              onward-run (part (starting text).ends i₁ (i₁ + k)) b.ends_on
              (rest-passed (carried (length content) (starting text).ends) text literal (starting text).ends r.some a) s.ends_over
              (omega (arith, ends_size r.inside)) (omega (arith, length_part (starting text).ends i₁ (i₁ + k) (rw (length-starting-ends text) a.most)));
        } in
        rw (sym to) at on

  -- room for bytes
  pub bytes-room : (k : ℕ) → i₁ + k ≤ length text → at₁ + k ≤ at + places_size (length content) (matches_from text literal i) → StretchRoom text i₁ (i₁ + k) out₁ starts₁ ends₁ at₁
  bytes-room k inside fits =
      record {
        formed = r.formed;
        short = r.short;
        onward = omega arith;
        inside = inside;
        text_room = omega (arith, r.text_room, b.text_on.same);
        starts_room = omega (arith, r.starts_room, b.starts_on.same);
        ends_room = omega (arith, r.ends_room, b.ends_on.same);
      }

  -- one byte
  pub byte-away : i₁ < length text → occurs_at text literal i₁ ≡ false → Absent text literal i₁ (i₁ + 1)
  byte-away h f = absent-step h f

  pub byte-room : i₁ < length text → occurs_at text literal i₁ ≡ false → StretchRoom text i₁ (i₁ + 1) out₁ starts₁ ends₁ at₁
  byte-room h f = bytes-room 1 (omega arith) (bytes-within 1 (absent-step h f))

  -- past a match
  module _ (t : occurs_at text literal i₁ ≡ true) where
    pub match-ends : i₁ + length literal ≤ length text
    match-ends = occurs-inside text literal i₁ r.some t

    pub match-within : at₁ + length content ≤ at + places_size (length content) (matches_from text literal i)
    match-within =
        let long = ap length (rest-matched (λ end. content) text literal text r.some i₁ t) ∙ length-append content (result_from (λ end. content) text literal text (i₁ + length literal)) in
        omega (arith, long, text_size b.inside, blanked-size)

    pub match-room : {padded : List ℕ} {until : ℕ} → length content ≤ length padded → until ≤ at + places_size (length content) (matches_from text literal i) → ContentRoom text (i₁ + length literal) padded (length content) until out₁ starts₁ ends₁ at₁
    match-room long below =
        record {
          formed = r.formed;
          short = r.short;
          some = omega (arith, r.some);
          inside = match-ends;
          long = long;
          text_room = omega (arith, match-within, r.text_room, b.text_on.same);
          starts_room = omega (arith, match-within, r.starts_room, b.starts_on.same);
          ends_room = omega (arith, match-within, r.ends_room, b.ends_on.same);
          text_until = omega (arith, r.text_room, b.text_on.same);
          starts_until = omega (arith, r.starts_room, b.starts_on.same);
          ends_until = omega (arith, r.ends_room, b.ends_on.same);
        }

    pub more-match : {padded : List ℕ} {until i₂ at₂ : ℕ} {out₂ starts₂ ends₂ : List ℕ} → part padded 0 (length content) ≡ content
        → until ≤ at + places_size (length content) (matches_from text literal i)
        → ContentLaid text (i₁ + length literal) padded (length content) out₁ starts₁ ends₁ at₁ until out₂ starts₂ ends₂ → i₂ ≡ i₁ + length literal
        → at₂ ≡ at₁ + length content
        → Blanked text literal content i at out starts ends i₂ at₂ out₂ starts₂ ends₂
    more-match {i₂ = i₂} {at₂} {out₂} {starts₂} {ends₂} front below l to here =
        let on : Blanked text literal content i at out starts ends (i₁ + length literal) at₂ out₂ starts₂ ends₂ = record {
          onward = omega (arith, b.onward);
          inside = match-ends;
          text_on = onward-run content b.text_on (rest-matched (λ end. content) text literal text r.some i₁ t) (rw front at l.text_over) (omega (arith, text_size r.inside)) here;
          starts_on =
              onward-run (carried (length content) (starting text).starts (i₁ + length literal)) b.starts_on
              (rest-matched (carried (length content) (starting text).starts) text literal (starting text).starts r.some i₁ t) l.starts_over
              (omega (arith, starts_size r.inside)) (here ∙ rw (length-replicate (length content)));
          ends_on =
              onward-run (carried (length content) (starting text).ends (i₁ + length literal)) b.ends_on
              (rest-matched (carried (length content) (starting text).ends) text literal (starting text).ends r.some i₁ t) l.ends_over
              (omega (arith, ends_size r.inside)) (here ∙ rw (length-replicate (length content)));
        } in
        rw (sym to) at on

  -- a block is within the result
  module _ {most : ℕ} {padded : List ℕ} {margin until : ℕ} (m : Bounded text most literal content padded i at margin until) (left : margin ≤ length text - i₁) (below : at₁ + 80 ≤ until) where
    pub block_within : at₁ + 80 ≤ at + places_size (length content) (matches_from text literal i)
    block_within = m.enough i₁ at₁ b.inside left below blanked-size

    pub block_room : (3 ≤ length text → 3 ≤ i) → {first last : ℕ} → first ≡ get_or literal 0 0 → last ≡ get_or literal (length literal - 1) 0 → SearchBlockRoom text most literal first last i₁ out₁ starts₁ ends₁ at₁
    block_room low f l =
        record {
          most_is = m.most_is;
          some = r.some;
          first_is = f;
          last_is = l;
          room = bytes-room 64 (omega (arith, m.window, r.some)) (omega (arith, block_within));
          low = omega (arith, low (omega (arith, m.window)), b.onward);
          high = omega (arith, m.window, r.some);
        }

    -- a block is laid up to its candidate
    pub turned : {k : ℕ} {out₂ starts₂ ends₂ : List ℕ} → BlockPassed text literal i₁ out₁ starts₁ ends₁ at₁ k out₂ starts₂ ends₂ → Blanked text literal content i at out starts ends (i₁ + k) (at₁ + k) out₂ starts₂ ends₂
    turned {k} p = more_bytes k p.away (omega (arith, block_within)) p.stretch refl refl

pub passed_none : {text literal : List ℕ} {i : ℕ} {out starts ends : List ℕ} {at : ℕ} → i ≤ length text → BlockPassed text literal i out starts ends at 0 out starts ends
passed_none h =
    record {
      most = omega arith;
      away = record { onward = omega arith; most = omega arith; not_there = λ k a b. absurd (omega arith) };
      stretch = stretch-none;
    }

-- a stage after another
onward-on : {fill : ℕ → List ℕ} {text literal xs : List ℕ} {i at : ℕ} {d : List ℕ} {i₁ at₁ : ℕ} {d₁ : List ℕ} {i₂ at₂ : ℕ} {d₂ : List ℕ} → Onward fill text literal xs i at d i₁ at₁ d₁ → Onward fill text literal xs i₁ at₁ d₁ i₂ at₂ d₂ → Onward fill text literal xs i at d i₂ at₂ d₂
onward-on {d₂ = d₂} o l =
    record {
      so_far = l.so_far ∙ o.so_far;
      beyond = (rw o.reach at l.beyond) ∙ o.beyond;
      reach = l.reach ∙ o.reach;
      same = l.same ∙ o.same;
    }

onward-all : {fill : ℕ → List ℕ} {text literal xs d : List ℕ} {i at : ℕ} {d₁ : List ℕ} → result_from fill text literal xs i ≡ []
    → length (result_from fill text literal xs 0) ≤ length d → Onward fill text literal xs 0 0 d i at d₁
    → (at ≡ length (result_from fill text literal xs 0)) × (d₁ ≡ overlay (result_from fill text literal xs 0) d)
unfolding overlay
onward-all {fill} {text} {literal} {xs} {d} {i} {at} {d₁} none room o =
    let end : at ≡ length (result_from fill text literal xs 0) = omega (arith, o.reach, ap length none) in
    let is : take at d₁ ≡ result_from fill text literal xs 0 = sym (append-nil (take at d₁)) ∙ rw none at o.so_far in
    let z : 0 + length (result_from fill text literal xs 0) ≡ length (result_from fill text literal xs 0) = omega arith in
    (end, sym (take-append-drop at d₁) ∙ rw (is, end) (ap (◌++◌ (result_from fill text literal xs 0)) (rw z at o.beyond)))

module _ {text literal content : List ℕ} {i at : ℕ} {out starts ends : List ℕ} {i₁ at₁ : ℕ} {out₁ starts₁ ends₁ : List ℕ} (r : Blankable text literal content i at out starts ends) (b : Blanked text literal content i at out starts ends i₁ at₁ out₁ starts₁ ends₁) where
  pub blankable-on : Blankable text literal content i₁ at₁ out₁ starts₁ ends₁
  blankable-on =
      record {
        formed = r.formed;
        literal_formed = r.literal_formed;
        short = r.short;
        some = r.some;
        inside = b.inside;
        within = omega (arith, blanked-size r b, r.within);
        text_room = omega (arith, blanked-size r b, r.text_room, b.text_on.same);
        starts_room = omega (arith, blanked-size r b, r.starts_room, b.starts_on.same);
        ends_room = omega (arith, blanked-size r b, r.ends_room, b.ends_on.same);
      }

  pub bounded-on : {most : ℕ} {padded : List ℕ} {margin until : ℕ} → Bounded text most literal content padded i at margin until → Bounded text most literal content padded i₁ at₁ margin until
  bounded-on m =
      record {
        most_is = m.most_is;
        padded_is = m.padded_is;
        padded_long = m.padded_long;
        window = m.window;
        enough = λ j c inside left below is. omega (arith, m.enough j c inside left below (is ∙ blanked-size r b), blanked-size r b);
      }

  pub blanked-on : {i₂ at₂ : ℕ} {out₂ starts₂ ends₂ : List ℕ} → Blanked text literal content i₁ at₁ out₁ starts₁ ends₁ i₂ at₂ out₂ starts₂ ends₂ → Blanked text literal content i at out starts ends i₂ at₂ out₂ starts₂ ends₂
  blanked-on n =
      record {
        onward = omega (arith, b.onward, n.onward);
        inside = n.inside;
        text_on = onward-on b.text_on n.text_on;
        starts_on = onward-on b.starts_on n.starts_on;
        ends_on = onward-on b.ends_on n.ends_on;
      }

pub all_laid : {text literal content out starts ends : List ℕ} {i at : ℕ} {out₁ starts₁ ends₁ : List ℕ}
    → Blankable text literal content 0 0 out starts ends → Blanked text literal content 0 0 out starts ends i at out₁ starts₁ ends₁ → length text ≤ i
    → AllBlanked text literal content out starts ends at out₁ starts₁ ends₁
all_laid {text} {literal} {content} {i = i} r b past =
    let end : i ≡ length text = omega (arith, b.inside) in
    let t = onward-all (rest_ended (λ end. content) text literal text r.some end) (omega (arith, text_size r b r.inside, r.text_room)) b.text_on in
    record {
      reached = t.0;
      text_is = t.1;
      starts_are = (onward-all (rest_ended (carried (length content) (starting text).starts) text literal (starting text).starts r.some end) (omega (arith, starts_size r b r.inside, r.starts_room)) b.starts_on).1;
      ends_are = (onward-all (rest_ended (carried (length content) (starting text).ends) text literal (starting text).ends r.some end) (omega (arith, ends_size r b r.inside, r.ends_room)) b.ends_on).1;
    }
