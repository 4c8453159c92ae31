-- Each figure is what its function ensures, and its ranges are those of an accepted source. Assumes nothing.
use Prim.Native.Nat.{ℕ, ◌/◌}
use mathlib.Core.Path.{◌≡◌, ap, ap₂, ◌∙◌}
use Rattle.request.specs.declared.Field.{Field}
use Rattle.request.specs.declared.Request.{Request}
use Rattle.request.specs.declared.Style.{Style}
use Rattle.request.specs.Fields.{value_of, size_of}
use Rattle.request.specs.Styles.{style_of}
use Rattle.rules.specs.Rules.{dip_of}
use Rattle.rules.specs.Fixed.{width_fixed, top_fixed}
use Rattle.outcome.specs.declared.Source.{Source}
use Rattle.outcome.specs.Figures.{or_estimate, dip, width, zhyp, tenths_of, zhyp_tenths, ztor}
use Rattle.outcome.specs.Stages.{source_figures}
use Rattle.outcome.proofs.Ranges.{source_range}
use Rattle.outcome.proofs.FigureLaws.{by_tenths}
use Rattle.source_stage.proofs.known_source.Goals as goal

module _ (r : Request) (s : Style) (m : ℕ) (e : s ≡ style_of (value_of r.rake)) (f : m ≡ size_of r.m) where
  dip-is : (d : Field) → d ≡ or_estimate r.dip (dip_of s) → d ≡ dip r
  unfolding dip
  dip-is d h = h ∙ ap (λ (s : Style). or_estimate r.dip (dip_of s)) e

  width_is : (w : Field) → w ≡ or_estimate r.w (width_fixed s m) → w ≡ width r
  unfolding width
  width_is w h = h ∙ ap₂ (λ (s : Style) (m : ℕ). or_estimate r.w (width_fixed s m)) e f

  tenths_are : (t : ℕ) → t ≡ tenths_of r.zhyp s m → t ≡ zhyp_tenths r
  unfolding zhyp_tenths
  tenths_are t h = h ∙ ap₂ (λ (s : Style) (m : ℕ). tenths_of r.zhyp s m) e f

pub complete_width-w-requires : goal.complete_width-w-requires
complete_width-w-requires c = let range = source_range c.args.r c.requires in
    rw c.size-m.ensures (range.m_low, range.m_high)

pub hypocentre_tenths-tenths-requires : goal.hypocentre_tenths-tenths-requires
hypocentre_tenths-tenths-requires c = let range = source_range c.args.r c.requires in
    rw c.size-m.ensures (range.m_low, range.m_high, range.zhyp-given)

pub complete_top-ztor-requires : goal.complete_top-ztor-requires
complete_top-ztor-requires c =
    let r = c.args.r in
    let s = c.style-style in
    let m = c.size-m in
    let range = source_range r c.requires in
    rw (
      tenths_are r s.result m.result s.ensures m.ensures c.hypocentre_tenths-tenths.result c.hypocentre_tenths-tenths.ensures,
      c.size.ensures,
      width_is r s.result m.result s.ensures m.ensures c.complete_width-w.result c.complete_width-w.ensures,
      c.size-2.ensures,
      dip-is r s.result m.result s.ensures m.ensures c.complete_dip-dip.result c.complete_dip-dip.ensures,
    )
    (range.zhyp-high, range.w_high, range.dip-high)

-- the four figures
whole :
    (r : Request) (d w h t : Field) (n a b : ℕ) → d ≡ dip r → w ≡ width r → n ≡ zhyp_tenths r → h ≡ or_estimate r.zhyp (n / 10)
    → a ≡ size_of w → b ≡ size_of d → t ≡ or_estimate r.ztor (top_fixed n a b)
    → ◌≡◌ {A = Source} (record { dip = d; w = w; zhyp = h; ztor = t }) (source_figures r)
unfolding source_figures ztor
whole r d w h t n a b e f g i j k l =
    let above : h ≡ zhyp r = i ∙ ap (λ (n : ℕ). or_estimate r.zhyp (n / 10)) g ∙ by_tenths r in
    rw (l, g, j, k, e, f, above)

pub returns : goal.returns
returns c =
    let r = c.args.r in
    let s = c.style-style in
    let m = c.size-m in
    whole r _ _ _ _ _ _ _ (dip-is r s.result m.result s.ensures m.ensures c.complete_dip-dip.result c.complete_dip-dip.ensures)
    (width_is r s.result m.result s.ensures m.ensures c.complete_width-w.result c.complete_width-w.ensures)
    (tenths_are r s.result m.result s.ensures m.ensures c.hypocentre_tenths-tenths.result c.hypocentre_tenths-tenths.ensures)
    c.complete_hypocentre-zhyp.ensures
    c.size.ensures
    c.size-2.ensures
    c.complete_top-ztor.ensures
