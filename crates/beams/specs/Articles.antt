-- The beam book: what each article compares. Assumes nothing.
use Rattle.std.specs.Prelude.{true, if◌then◌else◌, List, [], ◌∷◌, ℕ, ◌+◌, ◌*◌, ◌≤◌, ◌==◌, max, min, nat_lt}
use Rattle.sheets.specs.declared.sheet.BeamSheet.{BeamSheet}
use Rattle.books.specs.Findings.{at_least, at_most}
use Rattle.books.specs.Meanings.{Meaning}
use Rattle.books.specs.declared.answers.Finding.{Finding}
use Rattle.books.specs.declared.answers.Finding.TheVariants.{NotApplicable}
use Rattle.members.specs.Areas.{area, area_of_bars, greatest_area, root_of, greatest_root, greatest_zone}
use Rattle.books.specs.Numbered.{numbered}
use Rattle.beams.specs.declared.articles.BeamSizes.{BeamSizes}
use Rattle.members.specs.declared.member.Beam.{Beam}

-- the area of the top bars
abbrev pub top_area : BeamSheet → ℕ
top_area b = area_of_bars b.top

-- the area of the bottom bars
abbrev pub bottom_area : BeamSheet → ℕ
bottom_area b = area_of_bars b.bottom

-- the area of the face bars on one side
abbrev pub face_area : BeamSheet → ℕ
face_area b = area_of_bars b.face

-- the area of one stirrup bar
abbrev pub stirrup_area : BeamSheet → ℕ
stirrup_area b = area b.stirrups.diameter

-- the greater of the top and the bottom area
abbrev pub greater_area : BeamSheet → ℕ
greater_area b = max (top_area b) (bottom_area b)

-- the smaller of them
abbrev pub smaller_area : BeamSheet → ℕ
smaller_area b = min (top_area b) (bottom_area b)

-- the area of the section
abbrev pub section : BeamSheet → ℕ
section b = b.width * b.depth

-- the strength of the concrete over the section
abbrev pub section_strength : BeamSheet → ℕ
section_strength b = b.heading.strength * b.width * b.depth

-- the shear that the concrete bears, in the unit of the articles on shear
abbrev pub borne_shear : BeamSheet → ℕ
borne_shear b = b.heading.zone * root_of b.heading.concrete * b.shear_area

-- 5.6.1.3.2: the smaller area is not too small for the concrete
abbrev pub least_smaller_area : BeamSheet → Finding
least_smaller_area b = at_least (42000 * smaller_area b) (section_strength b)

-- 5.6.1.3.2: the greater area is at most a fortieth of the section
abbrev pub most_greater_area : BeamSheet → Finding
most_greater_area b = at_most (40 * greater_area b) (section b)

-- 5.6.1.3.2: the greater area is not too great for the smaller one and the concrete
abbrev pub most_area_for_concrete : BeamSheet → Finding
most_area_for_concrete b = at_most (42000 * greater_area b * greater_area b) ((3 * greater_area b + 2 * smaller_area b) * section_strength b)

-- 5.6.1.3.3: the bottom area is a share of the top area, by zone
abbrev pub least_bottom_area : BeamSheet → Finding
least_bottom_area b = at_least (bottom_area b * b.heading.zone) (50 * top_area b)

-- 5.5.5: the stirrups have the least area for their spacing
abbrev pub least_stirrup_area : BeamSheet → Finding
least_stirrup_area b = at_least (400 * stirrup_area b) (56 * b.stirrups.spacing)

-- 5.5.5 with 5.6.1.2: the shear is at most what the section may take
abbrev pub most_shear : BeamSheet → Finding
most_shear b = at_most (13500000 * b.shear) (95 * borne_shear b)

-- the share of the borne shear above which 5.6.1.5 applies, by concrete type
abbrev pub face_share : ℕ → ℕ
face_share concrete = if concrete == 17 then 40 else 47

-- 5.6.1.5: under high shear the faces have a share of the greater area, by zone
abbrev pub least_face_area : BeamSheet → Finding
least_face_area b =
    if nat_lt (face_share b.heading.concrete * borne_shear b) (13500000 * b.shear) then at_least (face_area b * b.heading.zone) (15 * greater_area b) else NotApplicable

-- the articles in the order of the book
abbrev pub beam_articles : BeamSheet → List Finding
beam_articles b = least_smaller_area b ∷ most_greater_area b ∷ most_area_for_concrete b ∷ least_bottom_area b ∷ least_stirrup_area b ∷ most_shear b ∷ least_face_area b ∷ []

-- how many there are
abbrev pub beam_count : ℕ
beam_count = 7

-- the beam book takes every beam
abbrev pub beam_meaning : Meaning Beam
beam_meaning = record { takes = λ beam. true; count = beam_count; finding = λ beam n. numbered (beam_articles beam.sheet) n }

-- the sizes that the articles compare
abbrev pub beam_sizes : BeamSheet → BeamSizes
beam_sizes b = record {
  zone = b.heading.zone;
  root = root_of b.heading.concrete;
  strength = b.heading.strength;
  width = b.width;
  depth = b.depth;
  top = top_area b;
  bottom = bottom_area b;
  face = face_area b;
  stirrup = stirrup_area b;
  spacing = b.stirrups.spacing;
  shear = b.shear;
  shear_area = b.shear_area;
}

-- the bounds that the sizes of a lawful beam keep
pub record BeamBounds (s : BeamSizes) : Type 0 where
  pub zone : s.zone ≤ greatest_zone
  pub root : s.root ≤ greatest_root
  pub strength : s.strength ≤ 300
  pub width : s.width ≤ 2000
  pub depth : s.depth ≤ 2000
  pub top : s.top ≤ 100 * greatest_area
  pub bottom : s.bottom ≤ 100 * greatest_area
  pub face : s.face ≤ 20 * greatest_area
  pub stirrup : s.stirrup ≤ greatest_area
  pub spacing : s.spacing ≤ 500
  pub shear : s.shear ≤ 10000000
  pub shear_area : s.shear_area ≤ 5000000
