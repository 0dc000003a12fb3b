use Rattle.tt_world.proofs.Headline.Meeting.{fusions-meet, publications-meet, unmet-breaks, each-life}
use Rattle.tt_world.proofs.meeting.meeting_laws.Goals as goal

pub returns : goal.returns
returns c = record {
  fusions_meet = fusions-meet;
  publications_meet = publications-meet;
  unmet_breaks = unmet-breaks;
  each_life = each-life;
}
