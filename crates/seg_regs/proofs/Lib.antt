mod Clicks
