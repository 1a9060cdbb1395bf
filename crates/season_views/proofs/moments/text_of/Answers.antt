use Rattle.season_views.proofs.MomentFacts.{instant_is_ascii, moment_text_is}
use Rattle.season_views.proofs.moments.text_of.Goals as goal

pub returns-clause-value : goal.returns-clause-value
returns-clause-value c = moment_text_is c.instant_text.result c.args.moment c.instant_text.ensures.instant

pub returns-clause-ascii : goal.returns-clause-ascii
returns-clause-ascii c = instant_is_ascii c.instant_text.result c.args.moment c.instant_text.ensures.instant
