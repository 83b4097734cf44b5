-- The code that holds a symbol against a text: the loop of `symbol_end`, `known`, the two ways out of `meet_known`, the loop of `meet_inner`, the two ways out of `meet_symbol`. Assumes nothing.
use mathlib.Core.Path.{◌≡◌, refl, sym, ap, ◌∙◌, subst}
use mathlib.Core.Bool.{Bool, true, false, not}
use mathlib.Core.List.{List, append-nil}
use Prim.Native.Nat.{ℕ, ◌+◌, ◌-◌, ◌*◌, ◌/◌, ◌%◌, ◌^◌, ◌<◌, ◌≤◌}
use native.Mathlib.Omega.{arith}
use borrow.Author.Rules.{rules}
use borrow.Author.Tests.{eq-eqb, ne_eqb, lt-ltb, le-ltb, not-true, not-false}
use lib.ListN.{length, get_or}
use mir.Syntax.{w64}
use mir.Val.{Fits}
use Rattle.octets.specs.Working.Choice.{pick}
use Rattle.octets.specs.Plain.Runs.{Lies}
use Rattle.parse_tree.specs.Plain.Tree.{Text, Syms, nil, cons, count}
use Rattle.parse_tree.specs.Working.Nodes.{size_of, long_of}
use Rattle.parse_tree.specs.Working.Encode.{sym_bytes, syms_bytes}
use Rattle.parse_tree.specs.Working.Nested.{inside_by, inside_at}
use Rattle.laws.specs.Flat.{sym_node, children, joined}
use Rattle.laws.proofs.Flat.{SymsFits, node_size, syms_fit_lem, step}
use Rattle.texts.specs.Table.{texts}
use Rattle.grades.proofs.CodesMean.{first_codes}
use Rattle.grades.proofs.SkipMean.{count-few}
use Rattle.display.specs.declared.Met.{Met}
use Rattle.display.specs.Standing.{SymStands, SomeSym}
use Rattle.display.specs.Follow.{met_by, before_by, behind_by, between_by, index_of, Follows}
use Rattle.display.proofs.StandsLaws.{standing, first_stands}
use Rattle.display.proofs.FollowCode.{some_room, some_within, some_high, some_fits, Going, start_lost, going_start, between_lost, inside_lost, going_next, behind_lost, going_done}
use Rattle.std.specs.Prelude.{Option, Some, None}
use Rattle.expander.specs.declared.Ground.{Ground}
use Rattle.expander.specs.declared.slots.Noted.{Noted}
use Rattle.expander.specs.Ground.{size_in, slot_code, slot_at, Grounded}
use Rattle.expander.specs.Replace.{expanded_code, keys_of, keys_of_all, StandAt}
use Rattle.expander.specs.Meet.{SymbolLies, SomeEnd, EndsAt, SlotAt, table_text, text_known_at, NotedAt, SomeKnown, SomeInner, Compares}
use Rattle.expander.proofs.StageReads.{grounded_readable}
use Rattle.expander.proofs.NoteSlotCode.{place_room}
use Rattle.expander.proofs.KeysLaws.{sym_length}
use Rattle.expander.proofs.MeetLaws.{stands_lies, noted_parts, known_below, known_inner, known_lies, known_lost, known_follows}

-- ---- `symbol_end`
module _ (w : List ℕ) (wd : ℕ) where
  -- k symbols lie from p up to e
  pub record Coming (p k e : ℕ) : Type 0 where
    pub texts : List Text
    pub symbols : Syms
    pub fits : SymsFits wd texts symbols
    pub lies : Lies w p (syms_bytes wd texts symbols) e
    pub many : count symbols ≡ k

  coming_first : (at e : ℕ) → SymbolLies w wd at e → Coming at 1 e
  unfolding syms_bytes count
  coming_first at e h =
      let z = append-nil (sym_bytes wd h.texts h.symbol) in
      record { texts = h.texts; symbols = cons h.symbol nil; fits = syms_fit_lem wd h.texts h.four (cons h.symbol nil) h.left (h.within, tt); lies = rw z h.lies; many = refl }

  -- the first command, and what comes then
  pub record Next (p k e : ℕ) : Type 0 where
    pub room : p + long_of wd (get_or w p 0) ≤ e
    pub below : e ≤ length w
    pub some : 9 ≤ long_of wd (get_or w p 0)
    pub few : k - 1 + inside_by wd w p (get_or w p 0) ≤ e
    pub next : Coming (p + long_of wd (get_or w p 0)) (k - 1 + inside_by wd w p (get_or w p 0)) e

  coming_next : (p k e : ℕ) → 0 < k → Coming p k e → Next p k e
  unfolding count inside_at
  coming_next p k e l h = go h.symbols h.fits h.lies h.many
    where
      go : (xs : Syms) → SymsFits wd h.texts xs → Lies w p (syms_bytes wd h.texts xs) e → count xs ≡ k → Next p k e
      go nil f o i = absurd (omega arith)
      go (cons x xs) f o i =
          let s = step wd h.texts w p e x xs f o in
          let c = first_codes wd 0 h.texts w p e x xs f o in
          let n = count-few wd h.texts (joined (children x) xs) in
          let z = c.size in
          let m : count (joined (children x) xs) ≡ k - 1 + inside_by wd w p (get_or w p 0) = omega (arith, s.many, c.held) in
          record {
            room = omega (arith, s.room, c.size);
            below = s.below;
            some = omega (arith, s.large, c.size);
            few = omega (arith, n, m, s.lies.end);
            next = record { texts = h.texts; symbols = joined (children x) xs; fits = s.fits; lies = rw z s.lies; many = m };
          }

  coming_none : (p k e : ℕ) → k ≤ 0 → Coming p k e → p ≡ e
  unfolding syms_bytes count
  coming_none p k e l h = go h.symbols h.lies h.many
    where
      go : (xs : Syms) → Lies w p (syms_bytes wd h.texts xs) e → count xs ≡ k → p ≡ e
      go nil o i = omega (arith, o.end)
      go (cons x xs) o i = absurd (omega arith)

  -- what is left of a symbol at a place when k are to come at p
  pub record Ending (at p k : ℕ) : Type 0 where
    pub narrow : 2 ≤ wd
    pub wide : wd ≤ 3
    pub end : ℕ
    pub some : Coming p k end
    pub each : (e : ℕ) → SymbolLies w wd at e → Coming p k e

  pub ending_start : (at : ℕ) → 2 ≤ wd → wd ≤ 3 → SomeEnd w wd at → Ending at at 1
  ending_start at n m h = record { narrow = n; wide = m; end = h.end; some = coming_first at h.end h.lies; each = λ e i. coming_first at e i }

  module _ (at p k : ℕ) (E : Ending at p k) where
    pub ending_done : k ≤ 0 → EndsAt w wd at p
    unfolding EndsAt
    ending_done l e i = coming_none p k e l (E.each e i)

    module _ (l : 0 < k) where
      turn : Next p k E.end
      turn = coming_next p k E.end l E.some

      pub ending_within : p < length w
      ending_within = omega (arith, turn.room, turn.below, turn.some)

      pub ending_room : p + long_of wd (get_or w p 0) ≤ length w
      ending_room = omega (arith, turn.room, turn.below)

      pub ending_place : (d : ℕ) → d ≤ 17 → length w * 1 < 2 ^ 63 → Fits w64 (p + d)
      ending_place d i f = record { fits = omega (arith, ending_within) }

      pub ending_fits : (n : ℕ) → n ≡ inside_by wd w p (get_or w p 0) → length w * 1 < 2 ^ 63 → Fits w64 (k - 1 + n)
      ending_fits n i f = record { fits = omega (arith, i, turn.few, turn.below) }

      module _ (n d : ℕ) (i : n ≡ inside_by wd w p (get_or w p 0)) (j : d ≡ long_of wd (get_or w p 0)) where
        pub ending_falls : length w - (p + d) < length w - p
        ending_falls = omega (arith, j, turn.room, turn.below, turn.some)

        pub ending_next : Ending at (p + d) (k - 1 + n)
        ending_next = rw (i, j) (record { narrow = E.narrow; wide = E.wide; end = E.end; some = turn.next; each = λ e o. (coming_next p k e l (E.each e o)).next })

pub ruleset ending = (rules, ending_start, ending_done, ending_within, ending_room, ending_place, ending_fits, ending_falls, ending_next)

-- ---- `known`
module _ (w : List ℕ) (g : Ground) (at : ℕ) (t : Bool) (e : t ≡ expanded_code (get_or w at 0)) where
  pub known_other : not t ≡ true → None ≡ text_known_at w g at
  unfolding text_known_at pick
  known_other h = let f = not-true t h in cc (e, f)

  module _ (h : not t ≡ false) (x : Noted) (i : slot_code x ≡ slot_at w g (at - g.from)) where
    f : t ≡ true
    f = not-false t h

    module _ (k : ℕ) (z : x ≡ Noted.Text k) where
      text_told : table_text g k ≡ text_known_at w g at
      unfolding text_known_at pick
      text_told =
          let v : slot_at w g (at - g.from) ≡ 2 * k = sym i ∙ ap slot_code z in
          let y : 2 * k / 2 ≡ k = omega arith in
          cc (e, f, v, y, eq-eqb (2 * k % 2) 0 (omega arith))

      pub known_text : k < g.m.count → Some k ≡ text_known_at w g at
      unfolding table_text pick
      known_text l = cc (lt-ltb k g.m.count l, text_told)

      pub known_later : g.m.count ≤ k → None ≡ text_known_at w g at
      unfolding table_text pick
      known_later l = cc (le-ltb k g.m.count l, text_told)

    pub known_pushed : (j : ℕ) → x ≡ Noted.Pushed j → None ≡ text_known_at w g at
    unfolding text_known_at pick
    known_pushed j z =
        let v : slot_at w g (at - g.from) ≡ 2 * j + 1 = sym i ∙ ap slot_code z in
        cc (e, f, v, ne_eqb ((2 * j + 1) % 2) 0 (λ q. omega arith))

pub ruleset knowing = (rules, known_other, known_text, known_later, known_pushed)

-- ---- `meet_known`
pub known_slot : (s w : List ℕ) (g : Ground) (left at : ℕ) → Grounded s w g → SomeKnown s w g left at → SlotAt w g at
unfolding size_in
known_slot s w g left at G K =
    let z : at - g.from ≡ K.place = omega (arith, K.is) in
    let n = sym_length g.width.bytes (texts s w g.m) K.symbol in
    let m = node_size g.width.bytes (texts s w g.m) K.symbol in
    let l : K.place + 9 ≤ K.end = omega (arith, n, m, K.stands.lies.end) in
    record {
      from = omega (arith, K.is);
      within = omega (arith, l, K.is, K.inside, G.inside, G.ordered);
      room = rw z (place_room s w g K.place G (omega (arith, l, K.inside)));
    }

pub ruleset known_meeting = (rules, grounded_readable, known_below, known_slot, known_lies, known_inner, known_lost, known_follows)

-- ---- `meet_inner`
inner-stands : (s w : List ℕ) (g : Ground) (left at : ℕ) (S : SomeInner s w g left at) → SymStands s w g.m g.width.bytes S.four left at (g.from + S.end) S.symbol
inner-stands s w g left at S = rw S.is S.stands

pub inner-some : (s w : List ℕ) (g : Ground) (left at : ℕ) → SomeInner s w g left at → SomeSym s w g.m g.width.bytes left at
inner-some s w g left at S = record { four = S.four; end = g.from + S.end; symbol = S.symbol; stands = inner-stands s w g left at S }

module _ (s w : List ℕ) (g : Ground) (left : ℕ) (t : Text) (p : Met) where
  abbrev at : ℕ
  at = p.at

  -- the symbols that are left, and what is noted of them
  pub record Meeting (c n : ℕ) (q : Met) (k : ℕ) : Type 0 where
    pub ground : Grounded s w g
    pub going : Going s w g.m g.width.bytes left t p c n q k
    pub levels : left ≤ 64
    pub four : Bool
    pub place : ℕ
    pub end : ℕ
    pub rest : Syms
    pub is : q.at ≡ g.from + place
    pub inside : end ≤ size_in g
    pub many : k + count rest ≡ n
    pub stand : StandAt s w g four (left - 1) place end rest
    pub noted : NotedAt s w g (keys_of_all g.width.bytes (texts s w g.m) rest place)

  pub meeting_start : (c n l b : ℕ) (u : Option ℕ) → Grounded s w g → SomeInner s w g left at → c ≡ get_or w at 0 → n ≡ inside_by g.width.bytes w at c → l ≡ long_of g.width.bytes c
      → u ≡ met_by t (Some p.i) (before_by g.width.bytes (texts s w g.m) w at c) → u ≡ Some b → Meeting c n (record { at = at + l; i = b }) 0
  meeting_start c n l b u G S d e f v z' =
      let h = inner-some s w g left at S in
      let o = standing s w g.m g.width.bytes S.four left at (g.from + S.end) S.symbol (inner-stands s w g left at S) in
      let y : l ≡ size_of g.width.bytes (sym_node (texts s w g.m) S.symbol) = f ∙ ap (long_of g.width.bytes) d ∙ o.reads.long in
      let z : at + long_of g.width.bytes (get_or w at 0) ≡ g.from + (S.place + size_of g.width.bytes (sym_node (texts s w g.m) S.symbol)) = omega (arith, S.is, o.reads.long) in
      record {
        ground = G;
        going = going_start s w g.m g.width.bytes left t p c d u v n l b (grounded_readable s w g G) h e f z';
        levels = S.levels;
        four = S.four;
        place = S.place + size_of g.width.bytes (sym_node (texts s w g.m) S.symbol);
        end = S.end;
        rest = children S.symbol;
        is = omega (arith, y, S.is);
        inside = S.inside;
        many = omega (arith, e ∙ ap (inside_by g.width.bytes w at) d ∙ o.reads.held);
        stand = rw z at o.inside;
        noted = S.noted;
      }

  module _ (c n : ℕ) (q : Met) (k : ℕ) (M : Meeting c n q k) where
    pub meeting_known : k < n → SomeKnown s w g (left - 1) q.at
    unfolding count keys_of_all syms_bytes
    meeting_known l = go M.rest M.many M.stand M.noted
      where
        go : (xs : Syms) → k + count xs ≡ n → StandAt s w g M.four (left - 1) M.place M.end xs → NotedAt s w g (keys_of_all g.width.bytes (texts s w g.m) xs M.place) → SomeKnown s w g (left - 1) q.at
        go nil j st N = absurd (omega arith)
        go (cons y ys) j st N =
            let fs = first_stands s w g.m g.width.bytes M.four (left - 1) (g.from + M.place) (g.from + M.end) y ys st in
            let z : g.from + M.place + length (sym_bytes g.width.bytes (texts s w g.m) y) ≡ g.from + (M.place + length (sym_bytes g.width.bytes (texts s w g.m) y)) = omega arith in
            record {
              four = M.four;
              place = M.place;
              end = M.place + length (sym_bytes g.width.bytes (texts s w g.m) y);
              symbol = y;
              is = M.is;
              levels = omega (arith, M.levels);
              stands = rw z at fs.0;
              inside = omega (arith, M.inside, fs.1.lies.end);
              noted = (noted_parts s w g (keys_of g.width.bytes (texts s w g.m) y M.place) _ N).0;
            }

    pub meeting_next : (o : Option ℕ) (i : ℕ) (u : Option Met) (r : Met) → k < n → o ≡ met_by t (Some q.i) (between_by c k) → o ≡ Some i → Follows s w g.m g.width.bytes (left - 1) t (record { at = q.at; i = i }) u → u ≡ Some r
        → Meeting c n r (k + 1)
    unfolding count keys_of_all
    meeting_next o i u r l d v f e = go M.rest M.many M.stand M.noted
      where
        go : (xs : Syms) → k + count xs ≡ n → StandAt s w g M.four (left - 1) M.place M.end xs → NotedAt s w g (keys_of_all g.width.bytes (texts s w g.m) xs M.place) → Meeting c n r (k + 1)
        go nil j st N = absurd (omega arith)
        go (cons y ys) j st N =
            let fs = first_stands s w g.m g.width.bytes M.four (left - 1) (g.from + M.place) (g.from + M.end) y ys st in
            let z : g.from + M.place + length (sym_bytes g.width.bytes (texts s w g.m) y) ≡ g.from + (M.place + length (sym_bytes g.width.bytes (texts s w g.m) y)) = omega arith in
            let h = subst (λ (a : ℕ). SymStands s w g.m g.width.bytes M.four (left - 1) a (g.from + M.place + length (sym_bytes g.width.bytes (texts s w g.m) y)) y) (sym M.is) fs.0 in
            record {
              ground = M.ground;
              going = going_next s w g.m g.width.bytes left t p c n q k M.going o l d i v u f r e;
              levels = M.levels;
              four = M.four;
              place = M.place + length (sym_bytes g.width.bytes (texts s w g.m) y);
              end = M.end;
              rest = ys;
              is = f.place r e M.four (g.from + M.place + length (sym_bytes g.width.bytes (texts s w g.m) y)) y h ∙ z;
              inside = M.inside;
              many = omega arith;
              stand = rw z at fs.1;
              noted = (noted_parts s w g (keys_of g.width.bytes (texts s w g.m) y M.place) _ N).1;
            }

    pub meeting_between : (o : Option ℕ) → k < n → o ≡ met_by t (Some q.i) (between_by c k) → o ≡ None → Follows s w g.m g.width.bytes left t p None
    meeting_between o l d v = between_lost s w g.m g.width.bytes left t p c n q k M.going o l d v

    pub meeting_inside : (o : Option ℕ) (i : ℕ) (u : Option Met) → k < n → o ≡ met_by t (Some q.i) (between_by c k) → o ≡ Some i → Follows s w g.m g.width.bytes (left - 1) t (record { at = q.at; i = i }) u → u ≡ None
        → Follows s w g.m g.width.bytes left t p None
    meeting_inside o i u l d v f e = inside_lost s w g.m g.width.bytes left t p c n q k M.going o l d i v u f e

    module _ (o : Option ℕ) (l : n ≤ k) (d : o ≡ met_by t (Some q.i) (behind_by w at c)) where
      pub meeting_behind : o ≡ None → Follows s w g.m g.width.bytes left t p None
      meeting_behind v = behind_lost s w g.m g.width.bytes left t p c n q k M.going l o d v

      pub meeting_done : (i : ℕ) → o ≡ Some i → Follows s w g.m g.width.bytes left t p (Some (record { at = q.at; i = i }))
      meeting_done i v = going_done s w g.m g.width.bytes left t p c n q k M.going l o d i v

pub ruleset symbol_meeting = (rules, grounded_readable, inner-some, some_room, some_within, some_high, some_fits, start_lost, meeting_start, meeting_known, meeting_behind, meeting_done)

-- ---- `meet_symbol`
pub inner_lies : (s w : List ℕ) (g : Ground) (left at : ℕ) → SomeInner s w g left at → SomeEnd w g.width.bytes at
inner_lies s w g left at S = record { end = g.from + S.end; lies = stands_lies s w g.m g.width.bytes left at S.four (g.from + S.end) S.symbol (inner-stands s w g left at S) }

module _ (s w : List ℕ) (g : Ground) (left : ℕ) (t : Text) (p : Met) (o : Option Met) (f : Follows s w g.m g.width.bytes left t p o) where
  pub compares_met : (q : Met) → o ≡ Some q → Compares s w g left t p (record { at = q.at; i = Some q.i })
  unfolding index_of
  compares_met q e = record { place = f.place q e; met = λ four c y h. ap index_of (sym e) ∙ f.met four c y h }

  pub compares_lost : (a : ℕ) → o ≡ None → EndsAt w g.width.bytes p.at a → Compares s w g left t p (record { at = a; i = None })
  unfolding index_of EndsAt
  compares_lost a e d = record {
    place = λ four c y h. d c (stands_lies s w g.m g.width.bytes left p.at four c y h);
    met = λ four c y h. ap index_of (sym e) ∙ f.met four c y h;
  }

pub ruleset comparing = (rules, grounded_readable, inner_lies, compares_met, compares_lost)
