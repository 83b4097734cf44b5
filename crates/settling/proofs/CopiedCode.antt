-- The ways out of numbered, known and put_known: the text of a symbol that stands already. Assumes nothing.
use mathlib.Core.Path.{◌≡◌, sym, ap, ◌∙◌, subst}
use mathlib.Core.Bool.{Bool, true}
use mathlib.Core.Logic.{inl, inr}
use mathlib.Core.List.{List, [], ◌∷◌, ◌++◌}
use Prim.Native.Nat.{ℕ, ◌+◌, ◌*◌, ◌/◌, ◌%◌, ◌<◌, ◌≤◌}
use native.Mathlib.Omega.{arith}
use borrow.Author.Rules.{rules}
use lib.ListN.{length, get_or}
use mir.Syntax.{w64}
use mir.Val.{Fits}
use Rattle.std.specs.Prelude.{Some, None}
use Rattle.parse_tree.specs.Working.Within.{Each}
use Rattle.texts.specs.Fields.{mark_at}
use Rattle.texts.specs.Table.{texts}
use Rattle.texts.specs.Texts.{marked_text, Whole, Behind}
use Rattle.laws.specs.Flat.{sym_node, children}
use Rattle.parse_tree.specs.Working.Nodes.{size_of}
use Rattle.replacing.specs.Trees.{is_key}
use Rattle.display.proofs.StandsLaws.{standing}
use Rattle.precedence.specs.Write.{Puts}
use Rattle.expander.specs.declared.Ground.{Ground}
use Rattle.expander.specs.declared.slots.Noted.{Noted}
use Rattle.expander.specs.Ground.{slot_code, slot_at, key_at, Grounded}
use Rattle.expander.specs.Held.{followed, Followable}
use Rattle.expander.specs.Replace.{expanded_code, keys_of, keys_of_all}
use Rattle.expander.proofs.GroundLaws.{slots_top, keys_slots}
use Rattle.expander.proofs.KeysLaws.{own_keys, keys_parts, stands_code}
use Rattle.octets.specs.Working.Choice.{pick}
use Rattle.appending.proofs.SymbolsTrees.{each-parts}
use Rattle.settling.specs.declared.Source.{Source}
use Rattle.settling.specs.Put.{source_text, in_work, Fixed, Marked}
use Rattle.settling.specs.declared.copied.Print.{Print}
use Rattle.settling.specs.Copied.{TextStands, Numbered, Said, Copying, SaidSymbol, KnownText}
use Rattle.settling.proofs.PutLaws.{puts_as}
use Rattle.settling.proofs.WordsLaws.{fixed_below}
use Rattle.settling.proofs.CopiedStays.{slot_top}

-- ---- numbered
module _ (s w : List ℕ) (x : Print) (p : ℕ) (h : Said s w x p) where
  abbrev g : Ground
  g = x.g

  pub said_followable : Grounded s w x.g → Followable w x.g p
  said_followable G = record {
    own = omega (arith, slot_top g p h.room, G.top);
    pushed = λ o. omega (arith, h.pushed o, G.fits, slots_top s w g G, G.top);
    place = λ o. omega (arith, slot_top g (key_at w g (slot_at w g p / 2)) (h.place o), G.top);
  }

  pub known_none : KnownText s w x p None
  known_none = record { stands = λ k e. cc; is = λ k e. cc }

  -- by what the reference tells
  module _ (z : Noted) (e : slot_code z ≡ followed w g (slot_at w g p)) (k : ℕ) (i : z ≡ Noted.Text k) where
    told : 2 * k ≡ followed w g (slot_at w g p)
    told = sym (ap slot_code i) ∙ e

    known_some : Numbered x k → KnownText s w x p (Some k)
    known_some n =
        let y : followed w g (slot_at w g p) % 2 ≡ 0 = omega (arith, told) in
        let a : k ≡ followed w g (slot_at w g p) / 2 = omega (arith, told) in
        let o : Numbered x (followed w g (slot_at w g p) / 2) = rw a at n in
        record {
          stands = λ j q. (let b : j ≡ followed w g (slot_at w g p) / 2 = cc in rw b (h.stands y o));
          is = λ j q. (let b : j ≡ followed w g (slot_at w g p) / 2 = cc in rw b (h.is y o));
        }

    pub known_old : k < g.m.count → KnownText s w x p (Some k)
    known_old l = known_some (inl l)

    pub known_new : x.first ≤ k → KnownText s w x p (Some k)
    known_new l = known_some (inr l)

pub ruleset numbering = (rules, said_followable, known_none, known_old, known_new)

-- ---- known
module _ (s w : List ℕ) (x : Print) (left p : ℕ) (G : Grounded s w x.g) (h : SaidSymbol s w x left p) where
  pub symbol_within : x.g.from + p < length w
  symbol_within = (standing s w x.g.m x.g.width.bytes h.four left (x.g.from + p) (x.g.from + h.end) h.symbol h.stands).within

  pub place_fits : Fits w64 (x.g.from + p)
  place_fits = record { fits = omega (arith, symbol_within, G.short) }

  -- its own place is one of those that are known
  pub own-said : (c : ℕ) (b : Bool) → c ≡ get_or w (x.g.from + p) 0 → b ≡ expanded_code c → b ≡ true → Said s w x p
  unfolding own_keys pick
  own-said c b d e t =
      let k : is_key h.symbol ≡ true = sym (stands_code s w x.g G h.four left p h.end h.symbol h.stands h.inside) ∙ ap expanded_code (sym d) ∙ sym e ∙ t in
      let is : keys_of x.g.width.bytes (texts s w x.g.m) h.symbol p ≡ keys_of_all x.g.width.bytes (texts s w x.g.m) (children h.symbol) (p + size_of x.g.width.bytes (sym_node (texts s w x.g.m) h.symbol)) ++ (p ∷ []) =
      keys_parts x.g.width.bytes (texts s w x.g.m) h.symbol p ∙ ap (λ (i : Bool). keys_of_all x.g.width.bytes (texts s w x.g.m) (children h.symbol) (p + size_of x.g.width.bytes (sym_node (texts s w x.g.m) h.symbol)) ++ own_keys i p) k in
      (each-parts (Said s w x) (keys_of_all x.g.width.bytes (texts s w x.g.m) (children h.symbol) (p + size_of x.g.width.bytes (sym_node (texts s w x.g.m) h.symbol))) (p ∷ []) (subst (Each (Said s w x)) is h.said)).1.0

  pub known_not : KnownText s w x p None
  known_not = record { stands = λ k e. cc; is = λ k e. cc }

pub ruleset knowing = (rules, symbol_within, place_fits, own-said, known_not)

-- ---- put_known
module _ (s w : List ℕ) (x : Print) (k to : ℕ) (C : Copying s w x to) (t : TextStands s w x k) where
  pub record_room : x.g.m.base + 24 * k + 24 ≤ length w
  record_room = omega (arith, t.low, keys_slots s w x.g C.ground, slots_top s w x.g C.ground, C.ground.top)

  module _ (y : ℕ) (e : y ≡ mark_at w x.g.m.base k) where
    pub mark_whole : Whole s w y
    mark_whole = rw e t.whole

    module _ (q : Source) (m : Marked s w y q) where
      pub known_fixed : Fixed (length w) x.lim q
      known_fixed = fixed_below (length w) (y + 4 * length s) x.lim q m.fixed (λ d. go d (rw (← e) at t.behind))
        where
          go : in_work q ≡ true → Behind s x.lim y → x.lim ≤ y + 4 * length s
          go d (inl l) = absurd (omega (arith, m.far d))
          go d (inr l) = l

      pub known_put : (r : ℕ) (w1 : List ℕ) → Puts w x.lim to (source_text w q) r w1 → Puts w x.lim to (marked_text s w (mark_at w x.g.m.base k)) r w1
      known_put r w1 a = puts_as (m.text ∙ ap (marked_text s w) e) a

  pub known_limit : x.lim ≤ length w
  known_limit = C.printable.inside

pub ruleset copying = (rules, record_room, mark_whole, known_fixed, known_put, known_limit)
