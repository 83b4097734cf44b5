-- Laws of the functions that expand `X*`. Assumes nothing.
use mathlib.Core.Path.{◌≡◌, refl, sym, ap, ◌∙◌, subst}
use mathlib.Core.Bool.{Bool, true, false, ◌||◌, not}
use mathlib.Core.List.{List, ◌++◌}
use Prim.Native.Nat.{ℕ, ◌+◌, ◌-◌, ◌%◌, ◌≤◌}
use native.Mathlib.Omega.{arith}
use borrow.Author.Rules.{rules}
use lib.ListN.{length}
use Rattle.octets.proofs.NumbersLaws.{low_bytes}
use Rattle.parse_tree.specs.Plain.Tree.{star, repeat, around, nil, cons, count, item}
use Rattle.parse_tree.specs.Plain.Display.{print}
use Rattle.passes.specs.Macros.{expand_repeat_symbol}
use Rattle.passes.specs.Sizes.{sym_fits}
use Rattle.precedence.specs.Write.{Puts, alternative_head}
use Rattle.precedence.proofs.WriteLaws.{puts_append}
use Rattle.replacing.specs.Trees.{renamed}
use Rattle.expander.specs.declared.Ground.{Ground}
use Rattle.expander.specs.declared.slots.Numbered.{Numbered}
use Rattle.expander.specs.Ground.{size_in}
use Rattle.expander.specs.Names.{named_in}
use Rattle.appending.specs.declared.Appended.{Appended}
use Rattle.appending.specs.declared.symbols.Copied.{Copied}
use Rattle.appending.specs.Built.{built_text, GivesBuilt}
use Rattle.appending.specs.Commands.{name_head, plus_head}
use Rattle.appending.specs.Pieces.{nested, then_piece, symbols_piece, item_piece, Appending, Appends, SomeAppending}
use Rattle.appending.specs.Symbols.{SomeReferring, PutsSymbols}
use Rattle.appending.proofs.PiecesLaws.{steady_then, steady_symbols, appends_then, appends_is, appends_nested}
use Rattle.appending.proofs.SymbolsStays.{referring_stays, some_stays}
use Rattle.macro_expand.specs.declared.begin.Begun.{Begun}
use Rattle.macro_expand.specs.Expand.{head_piece, SomePopped, IsRepeat, Begins}
use Rattle.macro_expand.specs.Repeat.{ExpandsAs, by_number, PutsBy, star_head, star_piece, PutsStar, BeginsStar}
use Rattle.macro_expand.proofs.ItemPieces.{steady_head}
use Rattle.macro_expand.proofs.RepeatTrees.{repeat_inner, repeat_referring}
use Rattle.macro_expand.proofs.PoppedLaws.{popped_any}
use Rattle.macro_expand.proofs.RepeatCode.{inside-fits, place-fits, by_ground, by_built, by_inside, put_by, begun_there}
use Rattle.macro_expand.proofs.PushCode.{rest_appending}
use Rattle.macro_expand.proofs.StarTrees.{steady_number, star_bytes, star_texts, star_fits}
use Rattle.macro_expand.proofs.PutInArgument.{fits_means}
use Rattle.macro_expand.specs.PutIn.{fits_at}

-- ---- put_star
pub star_put : (w w1 w2 w3 : List ℕ) (lim to wd span k a b r : ℕ) → Puts w lim to (alternative_head wd span 1 k 1) a w1 → Puts w1 lim a (name_head wd span k) b w2 → Puts w2 lim b (plus_head span) r w3
    → Puts w lim to (star_head wd span k) r w3
unfolding star_head
star_put w w1 w2 w3 lim to wd span k a b r P Q S =
    puts_append w w1 lim to (alternative_head wd span 1 k 1) a P (name_head wd span k ++ plus_head span) r w3 (puts_append w1 w2 lim a (name_head wd span k) b Q (plus_head span) r w3 S)

pub ruleset star_putting = (rules, star_put)

-- ---- put_v
pub v_done : (s w : List ℕ) (g : Ground) (n lim : ℕ) (v : Appended) → SomeAppending s w g n lim v → (t : Numbered) (w1 : List ℕ) → GivesBuilt s w g n v.count 1 t w1 → (span m r : ℕ) (w2 : List ℕ)
    → Puts w1 lim v.to (star_head g.width.bytes span m) r w2 → m ≡ t.number % 4294967296 → PutsBy s w g n lim v (built_text 1) (star_head g.width.bytes span) (record { to = r; count = t.count; deep = v.deep }) w2
unfolding star_head alternative_head name_head
v_done s w g n lim v K t w1 B span m r w2 P d =
    put_by s w g n lim v 1 t w1 B (star_head g.width.bytes span) (λ k. rw (low_bytes g.width.bytes k K.going.ground.narrow K.going.ground.wide) refl) m r w2 d P

pub ruleset v_putting = (rules, by_ground, by_built, by_inside, v_done)

-- ---- star_rest
not-not : (a b : Bool) → (a || not (not b)) ≡ a || b
not-not a true = refl
not-not a false = refl

module _ (s w : List ℕ) (g : Ground) (n lim p span : ℕ) (v r : Appended) (w1 : List ℕ) (S : PutsBy s w g n lim v (built_text 1) (star_head g.width.bytes span) r w1) where
  first_put : (ps : List ℕ) → Appending s g n lim ps w v → Appends s g n lim ps w v (by_number (built_text 1) (star_head g.width.bytes span)) r w1
  unfolding PutsBy
  first_put ps h = S ps h

  pub star_there : SomeReferring s w g n lim p 1 v → SomeReferring s w1 g n lim p 1 r
  star_there K = some_stays s w g n lim p 1 v K (by_number (built_text 1) (star_head g.width.bytes span)) r w1 (first_put K.places K.going)

  pub star_rest_done : (c : Copied) (w2 : List ℕ) → PutsSymbols s w1 g n lim p 1 r c w2 → (deep : Bool) (u : Appended) → u ≡ record { to = c.out.to; count = c.out.count; deep = c.out.deep || deep }
      → PutsStar s w g n lim p span deep v u w2
  unfolding PutsStar PutsSymbols count
  star_rest_done c w2 Q deep y z ps four left e x h R =
      let D = by_number (built_text 1) (star_head g.width.bytes span) in
      let X = symbols_piece g.width.bytes (cons x nil) in
      let a = first_put ps h in
      let f = (Q ps four left e (cons x nil) refl a.going (referring_stays s g n lim ps w v h (by_number (built_text 1) (star_head g.width.bytes span)) r w1 a four left p e (cons x nil) R)).1 in
      let both = appends_then s g n lim ps w v D r w1 X c.out w2 (steady_number (built_text 1) (star_head g.width.bytes span)) h a f in
      let k = appends_nested s g n lim ps w2 c.out (not deep) both.going in
      let st = steady_then D X (steady_number (built_text 1) (star_head g.width.bytes span)) (steady_symbols g.width.bytes (cons x nil)) in
      subst (λ (u : Appended). Appends s g n lim ps w v (star_piece g.width.bytes span x deep) u w2) (ap (λ (b : Bool). record { to = c.out.to; count = c.out.count; deep = b }) (not-not c.out.deep deep) ∙ sym z)
      (appends_then s g n lim ps w v (then_piece D X) c.out w2 (nested (not deep)) (record { to = c.out.to; count = c.out.count; deep = c.out.deep || not (not deep) }) w2 st h both k)

pub ruleset star_resting = (rules, rest_appending, star_there, star_rest_done)

-- ---- begin_star
pub star_begun : (s w : List ℕ) (g : Ground) (n lim q : ℕ) (v : Appended) (x : Begun) (w1 : List ℕ) → Begins s w g n lim q v 1 2 0 0 x w1 → SomePopped IsRepeat s w g n lim q v → BeginsStar s w g n lim q v x w1
star_begun s w g n lim q v x w1 B K = record { some = begun_there s w g n lim q v 1 0 0 x w1 B K; begins = B }

pub ruleset beginning_star = (rules, popped_any, star_begun)

-- ---- expand_star
module _ (s w : List ℕ) (g : Ground) (n lim q : ℕ) (v : Appended) (K : SomePopped IsRepeat s w g n lim q v) where
  pub star_end : g.end + 16 ≤ length w
  star_end = K.popped.going.behind

pub star_done : (s w : List ℕ) (g : Ground) (n lim q : ℕ) (v : Appended) (x : Begun) (w1 : List ℕ) → BeginsStar s w g n lim q v x w1 → (f : Bool) → f ≡ fits_at g.width.bytes g.end w 62 (g.from + (q + 10)) → (r : Appended) (w2 : List ℕ)
    → PutsStar s w1 g n lim (q + 10) x.span (not f) x.out r w2 → ExpandsAs s w g n lim q v star r w2
unfolding ExpandsAs PutsStar Begins size_in
star_done s w g n lim q v x w1 B fit S r w2 P ps four left e sp o y R =
    let z = x.span in
    let deep = not fit in
    let key = print (around sp (repeat o) y) in
    let b = B.begins ps four left e (around sp (repeat o) y) R in
    let h = b.1 in
    let k = b.0.0 in
    let H = head_piece g.width.bytes sp (print (around sp (repeat o) y)) 1 2 (built_text 0) 0 in
    let there = referring_stays s g n lim ps w v R.going H x.out w1 h four (left - 1) (q + 10) e (cons y nil) (repeat_referring s w g n lim ps four left q e sp o y v R) in
    let f = P ps four (left - 1) e y h.going there in
    let a = appends_then s g n lim ps w v H x.out w1 (star_piece g.width.bytes z y deep) r w2 (steady_head g.width.bytes sp (print (around sp (repeat o) y)) 1 2 (built_text 0) 0) R.going h f in
    let i = fits_means s w g.m g.width.bytes four g.end y (left - 1) (g.from + (q + 10)) (g.from + e) 62 (repeat_inner s w g n lim ps four left q e sp o y v R) (omega (arith, R.inside, R.going.ground.ordered)) in
    appends_is s g n lim ps w v (then_piece H (star_piece g.width.bytes z y deep)) r w2 a (item_piece g.width.bytes (item (expand_repeat_symbol sp key star (renamed y))))
    (star_texts g.width.bytes sp key y (named_in s w g v.count) z deep) (star_bytes g.width.bytes sp key y (named_in s w2 g r.count) z deep k)
    (star_fits g.width.bytes sp key y z deep (flip (not fit) (sym_fits (renamed y) 62) (ap not (S ∙ i))))
  where
    flip : (d c : Bool) → d ≡ not c → not d ≡ c
    flip d true h = ap not h
    flip d false h = ap not h

pub ruleset starring = (rules, inside-fits, place-fits, star_end, star_done)
