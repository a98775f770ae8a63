use Rattle.mlt_object_base.proofs.Texts.{elements_text}
use Rattle.mlt_object_base.proofs.elements.Elements.push_text.Goals as goal

pub returns-clause-text : goal.returns-clause-text
returns-clause-text c =
    elements_text c.push_elements.result _ _ c.self.inside.keys.keys c.args.self.now c.self.view_is c.push_elements.ensures.text c.push_elements.ensures.by_key
