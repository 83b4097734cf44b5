-- A printed form held against a text: a loop through the symbols straight inside, for crate expander, and its ways out. Assumes nothing.
use mathlib.Core.Path.{◌≡◌, refl, sym, ap, ◌∙◌}
use mathlib.Core.Bool.{Bool}
use mathlib.Core.List.{List, ◌++◌}
use Prim.Native.Nat.{ℕ, zero, suc, ◌+◌, ◌-◌, ◌*◌, ◌^◌, ◌<◌, ◌≤◌}
use native.Mathlib.Omega.{arith}
use borrow.Author.Tests.{ne_eqb}
use mir.Val.{Fits}
use mir.Syntax.{w64}
use lib.Dec.{eqb}
use lib.ListN.{length, get_or}
use Rattle.std.specs.Prelude.{Option, Some, None}
use Rattle.octets.specs.Working.Choice.{pick}
use Rattle.parse_tree.specs.Plain.Tree.{Text, Sym, Syms, nil, cons, count}
use Rattle.parse_tree.specs.Plain.Display.{shown, shown_all, shown_more, print}
use Rattle.parse_tree.proofs.DisplayLaws.{print-then}
use Rattle.parse_tree.specs.Working.Encode.{sym_bytes}
use Rattle.parse_tree.specs.Working.Nodes.{long_of}
use Rattle.parse_tree.specs.Working.Nested.{inside_by}
use Rattle.laws.specs.Flat.{children}
use Rattle.texts.specs.declared.Map.{Map}
use Rattle.texts.specs.Table.{texts}
use Rattle.display.specs.declared.Met.{Met}
use Rattle.display.specs.Standing.{Readable, SymStands, SymsStand, SomeSym}
use Rattle.display.specs.Follow.{met_by, before_by, behind_by, between_by, index_of, Follows}
use Rattle.display.proofs.MetLaws.{met_append, met_none, met_then, met_not}
use Rattle.display.proofs.StandsLaws.{before_text, between_text, behind_text, print-parts, standing, first_stands, none_stand}

-- the symbols that are left, k stand before them
unfoldable pub shown_from : ℕ → Syms → Text → Text → Text
shown_from k xs sep r = pick (eqb k 0) (shown_all xs sep r) (shown_more xs sep r)

pub shown_none : (k : ℕ) (sep r : Text) → shown_from k nil sep r ≡ r
unfolding shown_from pick shown_all shown_more
shown_none zero sep r = refl
shown_none (suc k) sep r = cc (ne_eqb (suc k) 0 (λ q. absurd (omega (arith, q))))

pub shown_later : (k : ℕ) (xs : Syms) (sep r : Text) → shown_from (k + 1) xs sep r ≡ shown_more xs sep r
unfolding shown_from pick
shown_later k xs sep r = cc (ne_eqb (k + 1) 0 (λ q. absurd (omega (arith, q))))

pub shown_first : (c k : ℕ) (x : Sym) (xs : Syms) (sep r : Text) → ((j : ℕ) → between_by c (suc j) ≡ sep) → between_by c k ++ shown x (shown_more xs sep r) ≡ shown_from k (cons x xs) sep r
unfolding shown_from pick shown_all shown_more between_by
shown_first c zero x xs sep r h = refl
shown_first c (suc k) x xs sep r h =
    let z = h k in
    let y : shown_from (suc k) (cons x xs) sep r ≡ sep ++ shown x (shown_more xs sep r) = cc (ne_eqb (suc k) 0 (λ q. absurd (omega (arith, q)))) in
    ap (λ (u : Text). u ++ shown x (shown_more xs sep r)) z ∙ sym y

-- ---- what is known of the place
module _ (s w : List ℕ) (m : Map) (wd left at : ℕ) (h : SomeSym s w m wd left at) where
  pub some_room : at + long_of wd (get_or w at 0) ≤ length w
  some_room = (standing s w m wd h.four left at h.end h.symbol h.stands).room

  pub some_within : at < length w
  some_within = (standing s w m wd h.four left at h.end h.symbol h.stands).within

  pub some_high : 32 ≤ get_or w at 0
  some_high = (standing s w m wd h.four left at h.end h.symbol h.stands).reads.high

  pub some_deep : 0 < left
  some_deep = (standing s w m wd h.four left at h.end h.symbol h.stands).deep

pub some_fits : (s w : List ℕ) (m : Map) (wd left at l : ℕ) → SomeSym s w m wd left at → l ≤ 17 → length w * 1 < 2 ^ 63 → Fits w64 (at + l)
some_fits s w m wd left at l h k f = let z = some_within s w m wd left at h in omega arith

-- ---- follow: from p on
none_some : (q : Met) → None ≡ Some q → ⊥
none_some q e = cc

-- after a difference
pub lost : (s w : List ℕ) (m : Map) (wd left : ℕ) (t : Text) (p : Met) → ((four : Bool) (e : ℕ) (x : Sym) → SymStands s w m wd four left p.at e x → None ≡ met_by t (Some p.i) (print x)) → Follows s w m wd left t p None
unfolding index_of
lost s w m wd left t p f = record { place = λ q e. absurd (none_some q e); met = f }

module _ (s w : List ℕ) (m : Map) (wd left : ℕ) (t : Text) (p : Met) where
  -- what is left of x, k of whose symbols are behind
  pub record Rest (q : Met) (k : ℕ) (four : Bool) (e : ℕ) (x : Sym) : Type 0 where
    pub rest : Syms
    pub many : k + count rest ≡ count (children x)
    pub stand : SymsStand s w m wd four (left - 1) q.at e rest
    pub met : met_by t (Some q.i) (shown_from k rest (between_text x) (behind_text x)) ≡ met_by t (Some p.i) (print x)

  pub record Going (c n : ℕ) (q : Met) (k : ℕ) : Type 0 where
    pub readable : Readable s w m wd
    pub some : SomeSym s w m wd left p.at
    pub deep : 0 < left
    pub code : c ≡ get_or w p.at 0
    pub number : n ≡ inside_by wd w p.at c
    pub carry : (four : Bool) (e : ℕ) (x : Sym) → SymStands s w m wd four left p.at e x → Rest q k four e x

  module _ (c : ℕ) (d : c ≡ get_or w p.at 0) (o : Option ℕ) (j : o ≡ met_by t (Some p.i) (before_by wd (texts s w m) w p.at c)) where
    -- what stands before the symbols straight inside was met
    before_met : (four : Bool) (e : ℕ) (x : Sym) → SymStands s w m wd four left p.at e x → o ≡ met_by t (Some p.i) (before_text x)
    before_met four e x h = j ∙ ap (λ (v : ℕ). met_by t (Some p.i) (before_by wd (texts s w m) w p.at v)) d ∙ ap (met_by t (Some p.i)) (standing s w m wd four left p.at e x h).reads.before

    pub start_lost : o ≡ None → Follows s w m wd left t p None
    start_lost z = lost s w m wd left t p (λ four e x h. met_not t (Some p.i) (before_text x) (shown_all (children x) (between_text x) (behind_text x)) (before_met four e x h) z ∙ ap (met_by t (Some p.i)) (sym (print-parts x)))

    pub going_start : (n l b : ℕ) → Readable s w m wd → SomeSym s w m wd left p.at → n ≡ inside_by wd w p.at c → l ≡ long_of wd c → o ≡ Some b → Going c n (record { at = p.at + l; i = b }) 0
    unfolding shown_from pick
    going_start n l b a h e f z = record { readable = a; some = h; deep = some_deep s w m wd left p.at h; code = d; number = e; carry = go }
      where
        go : (four : Bool) (e : ℕ) (x : Sym) → SymStands s w m wd four left p.at e x → Rest (record { at = p.at + l; i = b }) 0 four e x
        go four e x h =
            let st = standing s w m wd four left p.at e x h in
            let y : l ≡ long_of wd (get_or w p.at 0) = f ∙ ap (long_of wd) d in
            record {
              rest = children x;
              many = omega arith;
              stand = rw y st.inside;
              met = met_then t (Some p.i) (before_text x) (shown_all (children x) (between_text x) (behind_text x)) (before_met four e x h) z refl ∙ ap (met_by t (Some p.i)) (sym (print-parts x));
            }

  module _ (c n : ℕ) (q : Met) (k : ℕ) (g : Going c n q k) where
    -- n is the number of symbols straight inside
    held : (four : Bool) (e : ℕ) (x : Sym) → SymStands s w m wd four left p.at e x → n ≡ count (children x)
    held four e x h = g.number ∙ ap (inside_by wd w p.at) g.code ∙ (standing s w m wd four left p.at e x h).reads.held

    module _ (o : Option ℕ) (l : k < n) (d : o ≡ met_by t (Some q.i) (between_by c k)) where
      -- what is left begins with what stands between
      between_first : (four : Bool) (e : ℕ) (x : Sym) → SymStands s w m wd four left p.at e x → (y : Sym) (ys : Syms) → met_by t (Some q.i) (shown_from k (cons y ys) (between_text x) (behind_text x)) ≡ met_by t (Some p.i) (print x)
          → met_by t (Some q.i) (between_by c k ++ shown y (shown_more ys (between_text x) (behind_text x))) ≡ met_by t (Some p.i) (print x)
      between_first four e x h y ys u =
          let sd : (o : ℕ) → between_by c (suc o) ≡ between_text x = λ o. ap (λ (z : ℕ). between_by z (suc o)) g.code ∙ (standing s w m wd four left p.at e x h).reads.between o in
          ap (met_by t (Some q.i)) (shown_first c k y ys (between_text x) (behind_text x) sd) ∙ u

      pub between_lost : o ≡ None → Follows s w m wd left t p None
      unfolding count
      between_lost z = lost s w m wd left t p (λ four e x h. let r = g.carry four e x h in go four e x h r.rest r.many r.met)
        where
          go : (four : Bool) (e : ℕ) (x : Sym) → SymStands s w m wd four left p.at e x → (xs : Syms) → k + count xs ≡ count (children x)
              → met_by t (Some q.i) (shown_from k xs (between_text x) (behind_text x)) ≡ met_by t (Some p.i) (print x) → None ≡ met_by t (Some p.i) (print x)
          go four e x h nil j u = let z = held four e x h in absurd (omega arith)
          go four e x h (cons y ys) j u = met_not t (Some q.i) (between_by c k) (shown y (shown_more ys (between_text x) (behind_text x))) d z ∙ between_first four e x h y ys u

      module _ (i : ℕ) (z : o ≡ Some i) (r : Option Met) (f : Follows s w m wd (left - 1) t (record { at = q.at; i = i }) r) where
        -- the first of those left was held against t
        first_met : (four : Bool) (e : ℕ) (x : Sym) → SymStands s w m wd four left p.at e x → (y : Sym) (ys : Syms) → SymsStand s w m wd four (left - 1) q.at e (cons y ys)
            → met_by t (Some q.i) (shown_from k (cons y ys) (between_text x) (behind_text x)) ≡ met_by t (Some p.i) (print x)
            → met_by t (index_of r) (shown_more ys (between_text x) (behind_text x)) ≡ met_by t (Some p.i) (print x)
        first_met four e x h y ys st u =
            let fs = first_stands s w m wd four (left - 1) q.at e y ys st in
            let a = f.met four (q.at + length (sym_bytes wd (texts s w m) y)) y fs.0 in
            let v = shown_more ys (between_text x) (behind_text x) in
            ap (λ (b : Option ℕ). met_by t b v) a ∙ met_append t (Some i) (print y) v ∙ ap (met_by t (Some i)) (print-then y v)
            ∙ met_then t (Some q.i) (between_by c k) (shown y v) d z refl ∙ between_first four e x h y ys u

        pub inside_lost : r ≡ None → Follows s w m wd left t p None
        unfolding count index_of
        inside_lost e = lost s w m wd left t p (λ four e x h. let r = g.carry four e x h in go four e x h r.rest r.many r.stand r.met)
          where
            go : (four : Bool) (e : ℕ) (x : Sym) → SymStands s w m wd four left p.at e x → (xs : Syms) → k + count xs ≡ count (children x) → SymsStand s w m wd four (left - 1) q.at e xs
                → met_by t (Some q.i) (shown_from k xs (between_text x) (behind_text x)) ≡ met_by t (Some p.i) (print x) → None ≡ met_by t (Some p.i) (print x)
            go four d x h nil j st u = let z = held four d x h in absurd (omega arith)
            go four d x h (cons y ys) j st u =
                let v = shown_more ys (between_text x) (behind_text x) in
                sym (met_none t v) ∙ ap (λ (b : Option Met). met_by t (index_of b) v) (sym e) ∙ first_met four d x h y ys st u

        pub going_next : (q1 : Met) → r ≡ Some q1 → Going c n q1 (k + 1)
        unfolding count index_of
        going_next q1 e =
            record { readable = g.readable; some = g.some; deep = g.deep; code = g.code; number = g.number; carry = λ four e x h. let r = g.carry four e x h in go four e x h r.rest r.many r.stand r.met }
          where
            go : (four : Bool) (e : ℕ) (x : Sym) → SymStands s w m wd four left p.at e x → (xs : Syms) → k + count xs ≡ count (children x) → SymsStand s w m wd four (left - 1) q.at e xs
                → met_by t (Some q.i) (shown_from k xs (between_text x) (behind_text x)) ≡ met_by t (Some p.i) (print x) → Rest q1 (k + 1) four e x
            go four d x h nil j st u = let z = held four d x h in absurd (omega arith)
            go four d x h (cons y ys) j st u =
                let fs = first_stands s w m wd four (left - 1) q.at d y ys st in
                let a = f.place q1 e four (q.at + length (sym_bytes wd (texts s w m) y)) y fs.0 in
                let v = shown_more ys (between_text x) (behind_text x) in
                record {
                  rest = ys;
                  many = omega arith;
                  stand = rw a fs.1;
                  met = ap (met_by t (Some q1.i)) (shown_later k ys (between_text x) (behind_text x)) ∙ ap (λ (b : Option Met). met_by t (index_of b) v) (sym e) ∙ first_met four d x h y ys st u;
                }

    module _ (l : n ≤ k) (o : Option ℕ) (d : o ≡ met_by t (Some q.i) (behind_by w p.at c)) where
      all_met : (four : Bool) (e : ℕ) (x : Sym) → SymStands s w m wd four left p.at e x → (xs : Syms) → k + count xs ≡ count (children x)
          → met_by t (Some q.i) (shown_from k xs (between_text x) (behind_text x)) ≡ met_by t (Some p.i) (print x) → o ≡ met_by t (Some p.i) (print x)
      unfolding count
      all_met four e x h nil j u =
          let st = standing s w m wd four left p.at e x h in
          d ∙ ap (λ (v : ℕ). met_by t (Some q.i) (behind_by w p.at v)) g.code ∙ ap (met_by t (Some q.i)) (st.reads.behind ∙ sym (shown_none k (between_text x) (behind_text x))) ∙ u
      all_met four e x h (cons y ys) j u = let z = held four e x h in absurd (omega arith)

      place : (four : Bool) (e : ℕ) (x : Sym) → SymStands s w m wd four left p.at e x → (xs : Syms) → k + count xs ≡ count (children x) → SymsStand s w m wd four (left - 1) q.at e xs → q.at ≡ e
      unfolding count
      place four e x h nil j st = none_stand s w m wd four (left - 1) q.at e st
      place four e x h (cons y ys) j st = let z = held four e x h in absurd (omega arith)

      pub behind_lost : o ≡ None → Follows s w m wd left t p None
      behind_lost z = lost s w m wd left t p (λ four e x h. let r = g.carry four e x h in sym z ∙ all_met four e x h r.rest r.many r.met)

      pub going_done : (i : ℕ) → o ≡ Some i → Follows s w m wd left t p (Some (record { at = q.at; i = i }))
      unfolding index_of
      going_done i z = record {
        place = λ q1 e four b x h. let r = g.carry four b x h in let y : q1 ≡ record { at = q.at; i = i } = cc in rw y (place four b x h r.rest r.many r.stand);
        met = λ four e x h. let r = g.carry four e x h in sym z ∙ all_met four e x h r.rest r.many r.met;
      }
