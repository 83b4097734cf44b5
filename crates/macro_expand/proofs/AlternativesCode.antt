-- Laws of the code that appends one alternative with the arguments put in. Assumes nothing.
use mathlib.Core.Path.{◌≡◌, refl, sym, ap, ◌∙◌, subst}
use mathlib.Core.Bool.{Bool}
use mathlib.Core.Logic.{inl, inr, ◌⊎◌}
use mathlib.Core.List.{List, [], ◌∷◌, ◌++◌}
use Prim.Native.Nat.{ℕ, ◌+◌, ◌≤◌}
use native.Mathlib.Omega.{arith}
use borrow.Author.Rules.{rules}
use lib.ListN.{length}
use Rattle.octets.specs.Plain.Numbers.{le_at, le}
use Rattle.octets.specs.Plain.Runs.{part, Lies}
use Rattle.parse_tree.specs.Plain.Tree.{Text, Syms, Alternative, count}
use Rattle.parse_tree.specs.Working.Nodes.{span_bytes, alternative_here}
use Rattle.parse_tree.specs.Working.Encode.{alternative_bytes, syms_bytes}
use Rattle.parse_tree.specs.Working.Within.{SymsWithin, AlternativeWithin}
use Rattle.parse_tree.specs.declared.syntax.Alternative.{Alternative as Command}
use Rattle.parse_tree.specs.declared.syntax.Span.{Span}
use Rattle.texts.specs.Table.{texts}
use Rattle.texts.proofs.TableStays.{part-agree}
use Rattle.passes.specs.Macros.{macro_expand_symbols, expand_alternative}
use Rattle.grades.specs.Annotations.{conditions_from, symbols_from}
use Rattle.precedence.specs.Write.{Puts}
use Rattle.precedence.proofs.WriteLaws.{puts_append, puts_beside, puts_on, puts_upto}
use Rattle.replacing.specs.Trees.{renamed_all}
use Rattle.expander.specs.declared.Ground.{Ground}
use Rattle.expander.specs.Ground.{top_of, list_place}
use Rattle.expander.specs.Names.{named_in}
use Rattle.appending.specs.declared.Appended.{Appended}
use Rattle.appending.specs.declared.symbols.Copied.{Copied}
use Rattle.appending.specs.Pieces.{plainly, then_piece, Appends}
use Rattle.appending.proofs.PiecesLaws.{steady_plainly, appends_then, appends_is, appends_puts}
use Rattle.appending.proofs.SymbolsStays.{texts-stay}
use Rattle.macro_expand.specs.declared.arguments.Call.{Call}
use Rattle.macro_expand.specs.PutIn.{syms_piece, Placed, Framed, SomeFramed, SomeInsides, PutsInAll}
use Rattle.macro_expand.specs.Alternatives.{alternative_piece, bare_out, SomeAlternative, OpensAlternative, PutsAlternative}
use Rattle.macro_expand.proofs.FrameLaws.{placed_stays, frame_stays}
use Rattle.macro_expand.proofs.PutInPlain.{named-extends}
use Rattle.macro_expand.proofs.AlternativesTrees.{bare_bytes, Parted, parted, expanded_bytes, expanded_texts, expanded_fits}

-- ---- put_unconditioned
module _ (w : List ℕ) (p e span lim to : ℕ) (h : p + 11 ≤ e) (b : e ≤ to) (d : e ≤ length w) (u : to ≤ lim + 1) (q : ℕ) (w1 : List ℕ) (A : Puts w lim to (18 ∷ (le 8 span ++ part (p + 9) (p + 10) w)) q w1)
    (r : ℕ) (w2 : List ℕ) (B : Puts w1 lim q (0 ∷ []) r w2) where
  on : to ≤ q
  on = puts_on w w1 lim to (18 ∷ (le 8 span ++ part (p + 9) (p + 10) w)) q A u

  pub bare_upto : e ≤ r
  bare_upto = omega (arith, on, puts_on w1 w2 lim q (0 ∷ []) r B (puts_upto w w1 lim to (18 ∷ (le 8 span ++ part (p + 9) (p + 10) w)) q A))

  same : part (p + 11) e w2 ≡ part (p + 11) e w
  same = part-agree w w2 (p + 11) e (B.long ∙ A.long) d (λ i j k. puts_beside w1 w2 lim q (0 ∷ []) r B i (inl (omega (arith, on))) ∙ puts_beside w w1 lim to (18 ∷ (le 8 span ++ part (p + 9) (p + 10) w)) q A i (inl (omega arith)))

  pub bare_done : (t : ℕ) (w3 : List ℕ) → Puts w2 lim r (part (p + 11) e w2) t w3 → Puts w lim to (bare_out w p e span) t w3
  unfolding bare_out
  bare_done t w3 C =
      puts_append w w1 lim to (18 ∷ (le 8 span ++ part (p + 9) (p + 10) w)) q A ((0 ∷ []) ++ part (p + 11) e w) t w3
      (puts_append w1 w2 lim q (0 ∷ []) r B (part (p + 11) e w) t w3 (subst (λ (l : List ℕ). Puts w2 lim r l t w3) same C))

pub ruleset baring = (rules, bare_upto, bare_done)

-- ---- what stands behind in the definition
pub placed_behind : (w : List ℕ) (g : Ground) (v : Appended) (a b e : ℕ) (xs ys : List ℕ) → Placed w g v a e xs → a ≤ b → Lies w b ys e → Placed w g v b e ys
placed_behind w g v a b e xs ys h i l = record { lies = l; off = go h.off; before = h.before; behind = h.behind }
  where
    go : (e ≤ list_place g 0) ⊎ ((top_of g ≤ a) × (e ≤ v.to)) → (e ≤ list_place g 0) ⊎ ((top_of g ≤ b) × (e ≤ v.to))
    go (inl z) = inl z
    go (inr z) = inr (omega (arith, z.0), z.1)

-- ---- every alternative that stands there
module _ (s w : List ℕ) (g : Ground) (n lim : ℕ) (c : Call) (p : ℕ) (v : Appended) (ps : List ℕ) (names : List Text) (args : Syms) (four : Bool) (e : ℕ) (a : Alternative)
    (F : Framed s w g n lim c v ps names args) (W : AlternativeWithin four g.width.bytes (texts s w g.m) a) (P : Placed w g v p e (alternative_bytes g.width.bytes (texts s w g.m) a)) where
  abbrev ts : List Text
  ts = texts s w g.m

  abbrev wd : ℕ
  wd = g.width.bytes

  D : Parted four wd ts w p e a
  D = parted four wd ts w p e a W P.lies

  pub alternative_head_lem : p + 14 + wd ≤ conditions_from wd w p
  alternative_head_lem = D.ahead

  pub alternative_upto : conditions_from wd w p ≤ e
  alternative_upto = omega (arith, D.condition.end)

  module _ (to : ℕ) (w1 : List ℕ) (span : ℕ) (A : Puts w lim v.to (bare_out w p (conditions_from wd w p) span) to w1) where
    abbrev bytes : List ℕ
    bytes = bare_out w p (conditions_from wd w p) span

    abbrev u : Appended
    u = record { to = to; count = v.count; deep = v.deep }

    abbrev x : Copied
    x = record { at = symbols_from wd w p; out = u }

    head : Appends s g n lim ps w v (plainly bytes) u w1
    head = appends_puts s g n lim ps w v bytes to w1 F.going A

    same_texts : texts s w1 g.m ≡ ts
    same_texts = texts-stay s g n lim ps w v F.going (plainly bytes) u w1 head

    pub symbols_framed : Framed s w1 g n lim c u ps names args
    symbols_framed = frame_stays s g n lim c w v ps names args F (plainly bytes) u w1 head

    pub symbols_within : SymsWithin four wd (texts s w1 g.m) a.symbols 64
    symbols_within = subst (λ (us : List Text). SymsWithin four wd us a.symbols 64) (sym same_texts) W.symbols

    pub symbols_placed : Placed w1 g u (symbols_from wd w p) e (syms_bytes wd (texts s w1 g.m) a.symbols)
    symbols_placed =
        subst (λ (us : List Text). Placed w1 g u (symbols_from wd w p) e (syms_bytes wd us a.symbols)) (sym same_texts)
        (placed_stays s g n lim ps w v F.going (plainly bytes) u w1 head (symbols_from wd w p) e (syms_bytes wd ts a.symbols)
        (placed_behind w g v p (symbols_from wd w p) e (alternative_bytes wd ts a) (syms_bytes wd ts a.symbols) P (omega (arith, D.ahead, D.behind)) D.symbols))

    pub symbols_many : count a.symbols ≡ le_at 2 w (p + 12 + wd)
    symbols_many = sym D.many

    bytes_are : (sp : Span) → le 8 span ≡ span_bytes sp → bytes ≡ bare_bytes four wd ts sp a
    unfolding bare_out bare_bytes
    bytes_are sp i = rw (i, D.attributes, D.tail) refl

    pub alternative_whole : (sp : Span) → le 8 span ≡ span_bytes sp → (k : ℕ) → k ≡ le_at 2 w (p + 12 + wd) → (r : Copied) (w2 : List ℕ) → PutsInAll s w1 g n lim c 64 k (record { at = symbols_from wd w p; out = u }) r w2
        → Appends s g n lim ps w v (alternative_piece wd (expand_alternative sp names (renamed_all args) a)) r.out w2
    unfolding PutsInAll
    alternative_whole sp i k m r w2 U =
        let rest = syms_piece wd (macro_expand_symbols names (renamed_all args) a.symbols) 64 in
        let T = named_in s w2 g r.out.count in
        let z = (U ps names args four e a.symbols symbols_framed (symbols_many ∙ sym m) symbols_within symbols_placed).1 in
        let both = appends_then s g n lim ps w v (plainly bytes) u w1 rest r.out w2 (steady_plainly bytes) F.going head z in
        let kept = texts-stay s g n lim ps w v F.going (then_piece (plainly bytes) rest) r.out w2 both in
        appends_is s g n lim ps w v (then_piece (plainly bytes) rest) r.out w2 both (alternative_piece wd (expand_alternative sp names (renamed_all args) a))
        (expanded_texts four wd ts (named_in s w g v.count) (named-extends s w w g v.count refl) names (renamed_all args) sp a W)
        (expanded_bytes four wd ts T (named-extends s w w2 g r.out.count kept) names (renamed_all args) sp a W
        ∙ ap (λ (l : List ℕ). l ++ syms_bytes wd T (macro_expand_symbols names (renamed_all args) a.symbols)) (sym (bytes_are sp i)))
        (expanded_fits four wd ts names (renamed_all args) sp a W)

-- ---- the code
module _ (s w : List ℕ) (g : Ground) (n lim : ℕ) (c : Call) (p : ℕ) (v : Appended) (K : SomeFramed s w g n lim c v) (I : SomeAlternative s w g c p v) where
  ahead : p + 14 + g.width.bytes ≤ conditions_from g.width.bytes w p
  ahead = alternative_head_lem s w g n lim c p v K.places K.names K.args I.four I.end I.alternative K.framed I.within I.placed

  ends : conditions_from g.width.bytes w p ≤ I.end
  ends = alternative_upto s w g n lim c p v K.places K.names K.args I.four I.end I.alternative K.framed I.within I.placed

  pub single_whole : p + (14 + g.width.bytes) ≤ length w
  single_whole = omega (arith, ahead, ends, I.placed.behind)

  pub single_head_lem : p + 11 ≤ length w
  single_head_lem = omega (arith, ahead, ends, I.placed.behind)

  pub single_inside : lim ≤ length w
  single_inside = K.framed.going.inside

  pub single_cursor : v.to ≤ lim + 1
  single_cursor = K.framed.going.upto

  module _ (d : ℕ) (z : d ≡ conditions_from g.width.bytes w p) where
    pub single_ahead : p + 11 ≤ d
    single_ahead = omega (arith, ahead)

    pub single_before : d ≤ v.to
    single_before = omega (arith, ends, I.placed.before)

    pub single_room : d ≤ length w
    single_room = omega (arith, ends, I.placed.behind)

    module _ (j : Command) (y : j ≡ alternative_here g.width.bytes w p) (k : ℕ) (i : k ≡ j.symbols) (b : ℕ) (t : b ≡ symbols_from g.width.bytes w p) (span to : ℕ) (w1 : List ℕ) (A : Puts w lim v.to (bare_out w p d span) to w1) where
      put : Puts w lim v.to (bare_out w p (conditions_from g.width.bytes w p) span) to w1
      put = subst (λ (q : ℕ). Puts w lim v.to (bare_out w p q span) to w1) z A

      many : k ≡ le_at 2 w (p + 12 + g.width.bytes)
      many = i ∙ ap (λ (q : Command). q.symbols) y

      pub single_opens : OpensAlternative s w g n lim c span p v (record { many = k; run = record { at = b; out = record { to = to; count = v.count; deep = v.deep } } }) w1
      unfolding PutsAlternative
      single_opens = record {
        frame = record {
          places = K.places;
          names = K.names;
          args = K.args;
          framed = symbols_framed s w g n lim c p v K.places K.names K.args I.four I.end I.alternative K.framed I.within I.placed to w1 span put;
        };
        insides = subst (λ (q : ℕ). SomeInsides s w1 g 64 k (record { at = q; out = record { to = to; count = v.count; deep = v.deep } })) (sym t) (record {
          four = I.four;
          end = I.end;
          symbols = I.alternative.symbols;
          many = symbols_many s w g n lim c p v K.places K.names K.args I.four I.end I.alternative K.framed I.within I.placed to w1 span put ∙ sym many;
          within = symbols_within s w g n lim c p v K.places K.names K.args I.four I.end I.alternative K.framed I.within I.placed to w1 span put;
          placed = symbols_placed s w g n lim c p v K.places K.names K.args I.four I.end I.alternative K.framed I.within I.placed to w1 span put;
        });
        carry = λ r w2 U ps names args four e a sp F W P E S.
            alternative_whole s w g n lim c p v ps names args four e a F W P to w1 span put sp S k many r w2
            (subst (λ (q : ℕ). PutsInAll s w1 g n lim c 64 k (record { at = q; out = record { to = to; count = v.count; deep = v.deep } }) r w2) t U);
      }

pub ruleset singling = (rules, single_whole, single_head_lem, single_inside, single_cursor, single_ahead, single_before, single_room, single_opens)
