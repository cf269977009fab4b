use Rattle.std.proofs.Common.{refl, sym, subst}
use Rattle.cy_network_relevance.specs.declared.masks.Mask.{Mask}
use Rattle.cy_network_relevance.specs.NameBits.{lowest_bits, no_bits}
use Rattle.cy_network_relevance.specs.internal.Left.{IsReadOf}
use Rattle.cy_network_relevance.proofs.MaskRules.{read_labels, read_property, read_type}
use Rattle.cy_network_relevance.proofs.masks.attributes.attribute_mask.Goals as goal

pub returns-in-Property : goal.returns-in-Property
returns-in-Property c = let mask : Mask = record { nodes = lowest_bits; rels = lowest_bits } in subst (IsReadOf mask) (sym c.in-Property.is) (read_property mask c.in-Property.field-0 refl)

pub returns-in-RelType : goal.returns-in-RelType
returns-in-RelType c = let mask : Mask = record { nodes = no_bits; rels = lowest_bits } in subst (IsReadOf mask) (sym c.in-RelType.is) (read_type mask refl)

pub returns-in-Labels : goal.returns-in-Labels
returns-in-Labels c = let mask : Mask = record { nodes = lowest_bits; rels = no_bits } in subst (IsReadOf mask) (sym c.in-Labels.is) (read_labels mask refl)
